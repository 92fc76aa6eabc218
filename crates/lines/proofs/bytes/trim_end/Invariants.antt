-- `trim_end` drops blanks. The invariant: trimming the text is trimming what is left of it.
use Rattle.std.proofs.Common.{◌≡◌, length}
use Rattle.lines.specs.Trim.{trim_end}
use Rattle.lines.proofs.bytes.trim_end.Given as goal

abbrev pub invariant-loop-last : goal.invariant-loop-last
invariant-loop-last l = trim_end l.text ≡ trim_end l.rest

abbrev pub decreases-loop-last : goal.decreases-loop-last
decreases-loop-last l = length l.rest
