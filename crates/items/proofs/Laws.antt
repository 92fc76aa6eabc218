-- The laws that specs/Laws.antt states, each by the module that proves it.
use Rattle.items.specs.Laws.{SpelledSplits, SplitIsSpelled, SplitFits, RoundTrip, SameWritten, CutLaidAgain, LaidCutAgain, WriteAccepted, AcceptedHas, EnoughSpace}
use Rattle.items.proofs.SpelledItems.{spelled_splits}
use Rattle.items.proofs.ItemsBack.{split_spelled}
use Rattle.items.proofs.SplitSize.{split_fits}
use Rattle.items.proofs.WrittenBack.{written_splits, same_written}
use Rattle.items.proofs.LaidOut.{cut_laid_again, laid_cut_again}
use Rattle.items.proofs.Verdicts.{write_accepted, accepted_has, enough_space}

pub spelled_is_split : SpelledSplits
spelled_is_split = spelled_splits

pub split_is_spelled : SplitIsSpelled
split_is_spelled = split_spelled

pub split_is_short : SplitFits
split_is_short = split_fits

pub round_trip : RoundTrip
round_trip = written_splits

pub same_text_same_items : SameWritten
same_text_same_items = same_written

pub cut_is_laid_again : CutLaidAgain
cut_is_laid_again = cut_laid_again

pub laid_is_cut_again : LaidCutAgain
laid_is_cut_again = laid_cut_again

pub write_is_accepted : WriteAccepted
write_is_accepted = write_accepted

pub accepted_write_has : AcceptedHas
accepted_write_has = accepted_has

pub space_is_enough : EnoughSpace
space_is_enough = enough_space
