-- `read_number` takes no more than it has looked at.
use Rattle.std.proofs.Common.{◌≤◌}
use Rattle.listing.proofs.notation.read_number.Given as goal

abbrev pub invariant-loop-b : goal.invariant-loop-b
invariant-loop-b l = l.taken ≤ l.b-index
