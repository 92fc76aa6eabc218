-- `lay_numbers` ends: each number takes a byte of the line or more.
use Rattle.std.proofs.Common.{length, ◌≤◌}
use Rattle.listing.proofs.notation.lay_numbers.Given as goal

abbrev pub invariant-loop-space : goal.invariant-loop-space
invariant-loop-space l = l.count ≤ length l.numbers

abbrev pub decreases-loop-space : goal.decreases-loop-space
decreases-loop-space l = length l.rest
