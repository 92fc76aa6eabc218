-- `number` reads one digit after the other. The invariant: the number is what the digits read so far write.
use mathlib.Core.Path.{◌≡◌}
use lib.ListN.{take}
use Rattle.values.specs.Spans.{decimal}
use Rattle.values.proofs.spans.number.Given as goal

abbrev pub invariant-loop-b : goal.invariant-loop-b
invariant-loop-b l = l.n ≡ decimal (take l.b-index l.digits)
