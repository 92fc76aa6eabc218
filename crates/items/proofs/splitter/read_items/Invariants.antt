-- `read_items`: the loop keeps `Collecting`; its items are those of `next_item`.
use Prim.Native.Nat.{◌-◌}
use Rattle.items.proofs.SplitLoop.{Collecting}
use Rattle.items.proofs.splitter.read_items.Given as goal

abbrev pub invariant-loop-next : goal.invariant-loop-next
invariant-loop-next l = Collecting l.text l.initial.bytes l.initial.ends l.bytes l.ends l.at l.length l.count

abbrev pub decreases-loop-next : goal.decreases-loop-next
decreases-loop-next l = 257 - l.count
