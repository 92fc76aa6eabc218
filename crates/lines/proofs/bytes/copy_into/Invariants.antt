-- `copy_into`: the first i elements of the part stand in the buffer.
use mathlib.Core.Path.{◌≡◌}
use lib.Seq.{paste}
use Rattle.lines.proofs.bytes.copy_into.Given as goal

abbrev pub invariant-loop-i : goal.invariant-loop-i
invariant-loop-i g l = l.buffer ≡ paste l.initial.buffer l.at l.part l.i
