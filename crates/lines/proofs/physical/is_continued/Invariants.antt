-- `is_continued`: the bytes passed, from the end on, are part of the closing run, and the flag tells whether they are odd.
use Rattle.std.proofs.Common.{◌≡◌, ◌+◌, ◌-◌, ◌≤◌, length}
use Rattle.lines.specs.Lines.{closing_run, odd}
use Rattle.lines.proofs.physical.is_continued.Given as goal

abbrev pub invariant-loop-last : goal.invariant-loop-last
invariant-loop-last l =
    (length l.rest ≤ length l.line)
    × (closing_run l.line ≡ closing_run l.rest + (length l.line - length l.rest))
    × (l.odd ≡ odd (length l.line - length l.rest))

abbrev pub decreases-loop-last : goal.decreases-loop-last
decreases-loop-last l = length l.rest
