-- `ends_fit`: the ends passed fit, so what is left decides.
use mathlib.Core.Path.{◌≡◌}
use Prim.Native.Nat.{◌≤◌}
use lib.ListN.{length, drop}
use Rattle.items.specs.Write.{ends_fit}
use Rattle.item_writer.proofs.writer.ends_fit.Given as goal

abbrev pub invariant-loop-end : goal.invariant-loop-end
invariant-loop-end l = (l.end-index ≤ length l.ends) × (ends_fit 0 l.size l.ends ≡ ends_fit l.last l.size (drop l.end-index l.ends))
