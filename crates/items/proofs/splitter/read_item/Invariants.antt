-- `read_item`: the loop keeps `Reading`; its pieces are those of `piece_at`.
use Prim.Native.Nat.{◌-◌}
use lib.ListN.{length}
use Rattle.items.proofs.ItemLoop.{Reading}
use Rattle.items.proofs.splitter.read_item.Given as goal

abbrev pub invariant-loop-b : goal.invariant-loop-b
invariant-loop-b l = Reading l.text l.mode l.start l.used l.initial.buffer l.buffer l.at l.size

abbrev pub decreases-loop-b : goal.decreases-loop-b
decreases-loop-b l = length l.text - l.at
