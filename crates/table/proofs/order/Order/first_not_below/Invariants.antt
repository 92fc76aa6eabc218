-- `first_not_below`: what is left is inside the order.
use Rattle.std.proofs.Common.{◌+◌, ◌≤◌}
use Rattle.table.proofs.order.Order.first_not_below.Given as goal

abbrev pub invariant-loop-left : goal.invariant-loop-left
invariant-loop-left l = l.first + l.left ≤ l.self.count

abbrev pub decreases-loop-left : goal.decreases-loop-left
decreases-loop-left l = l.left
