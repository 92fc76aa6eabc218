-- `ends_fit`: the ends passed fit, so what is left decides.
use mathlib.Core.Path.{sym, ◌∙◌}
use Prim.Native.Nat.{◌≤◌}
use native.Mathlib.Omega.{arith}
use lib.ListN.{length, drop_of_length-le}
use borrow.Author.Tests.{le-leb, lt-leb}
use Rattle.lines.proofs.Bools.{and_false}
use Rattle.items.specs.Write.{ends_fit}
use Rattle.item_writer.proofs.Rest.{fit_here}
use Rattle.item_writer.proofs.writer.ends_fit.Goals as goal
use Rattle.item_writer.proofs.writer.ends_fit.Goals.{then-end-last-via-then-end-last, then-end-last-via-else-end-last+then-size-end}

pub returns-then-end-last : goal.returns-then-end-last
returns-then-end-last c =
    let e = fit_here c.args.ends.now c.loop-end.end-index (omega arith) c.loop-end.last c.args.size in
    elim c.then-end-last.branch [
      | then-end-last-via-then-end-last w ↦ sym (c.loop-end.invariant.1 ∙ e ∙ rw (lt-leb _ _ w.if-end-last.true))
      | then-end-last-via-else-end-last+then-size-end w ↦ sym (c.loop-end.invariant.1 ∙ e ∙ rw (lt-leb _ _ w.if-size-end.true, and_false))
    ]

pub loop-end-preserved : goal.loop-end-preserved
loop-end-preserved c =
    let e = fit_here c.args.ends.now c.loop-end.end-index (omega arith) c.loop-end.last c.args.size in
    (omega arith, c.loop-end.invariant.1 ∙ e ∙ rw (le-leb _ _ c.if-end-last.false, le-leb _ _ c.if-size-end.false))

pub returns : goal.returns
unfolding ends_fit
returns c =
    let h : length c.args.ends.now ≤ c.loop-end.end-index = omega arith in
    sym (c.loop-end.invariant.1 ∙ rw (drop_of_length-le c.args.ends.now h))
