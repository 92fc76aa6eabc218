-- `lay_apart` lays the tail behind the head and what stands between; a sum that could wrap fits no buffer.
use Prim.Native.Nat.{◌+◌}
use native.Mathlib.Omega.{arith}
use lib.ListN.{length}
use Rattle.listing.proofs.Laying.{unfit_tail}
use Rattle.listing.proofs.texts.lay_apart.Goals as goal

pub returns-then-buffer-head : goal.returns-then-buffer-head
returns-then-buffer-head c =
    let h = c.args.head.now in
    let p = unfit_tail c.args.buffer.now h (length h + c.args.count) c.args.tail.now (omega arith) in record { answer = p.0; held = p.1.0; inside = p.1.1 }

pub returns-then-buffer-head-2 : goal.returns-then-buffer-head-2
returns-then-buffer-head-2 c =
    let h = c.args.head.now in
    let p = unfit_tail c.args.buffer.now h (length h + c.args.count) c.args.tail.now (omega arith) in record { answer = p.0; held = p.1.0; inside = p.1.1 }
