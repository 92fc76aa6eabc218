-- The laws that specs/Laws.antt states, each by the module that proves it.
use Rattle.lines.specs.Laws.{Utf8Splits, Utf8Appends, AsciiUtf8, EncodedUtf8, CheckedSound, SoundChecked, CommentDropped, LineKept, LineContinued, CommentAnywhere, NoComment, LinesAppend, NumbersApart, ReadsAll, ReadsOn, FoundTells, EndTells, RefusedTells, LinesFit, ReadBack, LinesSettled, WrittenLegal}
use Rattle.lines.proofs.Utf8Laws.{utf8_split, utf8_append, utf8_ascii}
use Rattle.lines.proofs.Encoded.{encoded-utf8}
use Rattle.lines.proofs.FileLaws.{checked_sound, sound_checked}
use Rattle.lines.proofs.Physicals.{no_comment}
use Rattle.lines.proofs.Appending.{physical_append}
use Rattle.lines.proofs.Joining.{joined-comment, joined_line, joined-continued, joined_without, numbers_apart}
use Rattle.lines.proofs.Reading.{from_start, ahead}
use Rattle.lines.proofs.Promises.{found_line, ended_line, long_line}
use Rattle.lines.proofs.Totals.{logical-total}
use Rattle.lines.proofs.Whole.{logical-written}
use Rattle.lines.proofs.Legal.{logical_settled, written_legal}

pub utf8_splits : Utf8Splits
utf8_splits = utf8_split

pub utf8_appends : Utf8Appends
utf8_appends = utf8_append

pub ascii_utf8 : AsciiUtf8
ascii_utf8 = utf8_ascii

pub encoded_is_utf8 : EncodedUtf8
encoded_is_utf8 = encoded-utf8

pub checked_is_sound : CheckedSound
checked_is_sound = checked_sound

pub sound_is_checked : SoundChecked
sound_is_checked = sound_checked

pub comment_dropped : CommentDropped
comment_dropped = joined-comment

pub line_kept : LineKept
line_kept = joined_line

pub line_continued : LineContinued
line_continued = joined-continued

pub comment_anywhere : CommentAnywhere
comment_anywhere = joined_without

pub not_a_comment : NoComment
not_a_comment = no_comment

pub lines_append : LinesAppend
lines_append = physical_append

pub numbers_decide_nothing : NumbersApart
numbers_decide_nothing = numbers_apart

pub reads_all : ReadsAll
reads_all = from_start

pub reads_on : ReadsOn
reads_on = ahead

pub found_tells : FoundTells
found_tells = found_line

pub end_tells : EndTells
end_tells = ended_line

pub refused_tells : RefusedTells
refused_tells = long_line

pub lines_fit : LinesFit
lines_fit = logical-total

pub read_back : ReadBack
read_back = logical-written

pub lines_settled : LinesSettled
lines_settled = logical_settled

pub written_is_legal : WrittenLegal
written_is_legal = written_legal
