-- `measure`: the bytes met so far wait for what the rest of the file gives.
use Prim.Native.Nat.{◌-◌}
use lib.ListN.{length}
use Rattle.lines.proofs.Walk.{Walk}
use Rattle.lines.proofs.joiner.measure.Given as goal

abbrev pub invariant-loop-c : goal.invariant-loop-c
invariant-loop-c l = Walk l.file l.initial.c l.c l.length

abbrev pub decreases-loop-c : goal.decreases-loop-c
decreases-loop-c l = length l.file - l.c.offset
