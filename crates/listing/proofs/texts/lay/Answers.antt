-- `lay` copies both where they fit (`Laying`).
use native.Mathlib.Omega.{arith}
use Rattle.listing.proofs.Laying.{unfit_head, unfit_tail, fit}
use Rattle.listing.proofs.texts.lay.Goals as goal

pub returns-then-at-head : goal.returns-then-at-head
returns-then-at-head c =
    let p = unfit_head _ _ _ _ c.if-at-head.true in record { answer = p.0; held = p.1.0; inside = p.1.1 }

pub returns-then-buffer-at : goal.returns-then-buffer-at
returns-then-buffer-at c =
    let p = unfit_tail c.args.buffer.now c.args.head.now c.args.at c.args.tail.now (omega arith) in record { answer = p.0; held = p.1.0; inside = p.1.1 }

pub returns-then-buffer-at-2 : goal.returns-then-buffer-at-2
returns-then-buffer-at-2 c =
    let p = unfit_tail c.args.buffer.now c.args.head.now c.args.at c.args.tail.now (omega arith) in record { answer = p.0; held = p.1.0; inside = p.1.1 }

pub returns : goal.returns
returns c =
    let p = fit c.args.buffer.now c.args.head.now c.args.at c.args.tail.now _ _ (omega arith) (omega arith) c.copy_into.ensures.held c.copy_into-2.ensures.held in record { answer = p.0; held = p.1.0; inside = p.1.1 }
