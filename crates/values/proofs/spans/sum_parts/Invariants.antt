-- `sum_parts` reads one part after the other. The invariant: the parts read so far stand in front of those of
-- what is left (`Walked`).
use lib.ListN.{length}
use Rattle.values.proofs.Sums.{Walked}
use Rattle.values.proofs.spans.sum_parts.Given as goal

abbrev pub invariant-loop-rest : goal.invariant-loop-rest
invariant-loop-rest l = Walked l.text l.total l.rest

abbrev pub decreases-loop-rest : goal.decreases-loop-rest
decreases-loop-rest l = length l.rest
