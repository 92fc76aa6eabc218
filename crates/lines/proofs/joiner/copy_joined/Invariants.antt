-- `copy_joined`: the bytes met so far stand at the front of the buffer.
use Prim.Native.Nat.{◌-◌}
use lib.ListN.{length}
use Rattle.lines.proofs.Walk.{Copied}
use Rattle.lines.proofs.joiner.copy_joined.Given as goal

abbrev pub invariant-loop-c : goal.invariant-loop-c
invariant-loop-c l = Copied l.file l.initial.c l.c l.n l.initial.buffer l.buffer

abbrev pub decreases-loop-c : goal.decreases-loop-c
decreases-loop-c l = length l.file - l.c.offset
