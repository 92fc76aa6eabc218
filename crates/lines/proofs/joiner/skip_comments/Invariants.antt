-- `skip_comments`: the lines at the cursor reached are those at the start.
use mathlib.Core.Path.{◌≡◌}
use Prim.Native.Nat.{◌+◌, ◌-◌, ◌≤◌}
use lib.ListN.{length}
use Rattle.lines.specs.Cursors.{lines_at}
use Rattle.lines.specs.LineSteps.{Onward}
use Rattle.lines.proofs.joiner.skip_comments.Given as goal

abbrev pub invariant-loop-c : goal.invariant-loop-c
invariant-loop-c l = Onward l.file l.initial.c l.c × (l.c.line ≤ l.c.offset + 1) × (lines_at l.file l.initial.c ≡ lines_at l.file l.c)

abbrev pub decreases-loop-c : goal.decreases-loop-c
decreases-loop-c l = length l.file - l.c.offset
