-- `is_continued`: the bytes passed, from the end on, are part of the closing run, and the flag tells whether they are odd.
use mathlib.Core.Path.{◌≡◌, sym, ap, ◌∙◌}
use native.Mathlib.Omega.{arith}
use mathlib.Core.Bool.{not}
use borrow.Author.Tests.{eq-eqb, ne_eqb}
use Rattle.std.proofs.Common.{◌-◌, length, suc}
use Rattle.lines.specs.Lines.{continued, closing_run, odd}
use Rattle.lines.proofs.Runs.{closing_more, closing_stops, closing_none}
use Rattle.lines.proofs.physical.is_continued.Goals as goal

pub loop-last-init : goal.loop-last-init
unfolding odd
loop-last-init c =
    let n = length c.args.line.now in
    let z : n - n ≡ 0 = omega arith in
    (omega arith, omega arith, ap odd (sym z))

pub returns-then-last-ne92 : goal.returns-then-last-ne92
unfolding continued
returns-then-last-ne92 c =
    let l = c.loop-last in
    let e = c.in-Some.ensures.cases in
    let z : closing_run l.rest.now ≡ 0 = ap closing_run e.0 ∙ closing_stops c.in-Some.front.now c.in-Some.last.now (ne_eqb _ _ c.if-last-ne92.true) in
    let q : length c.args.line.now - length l.rest.now ≡ closing_run c.args.line.now = omega (arith, l.invariant.1, z) in
    l.invariant.2 ∙ ap odd q

pub loop-last-preserved : goal.loop-last-preserved
unfolding odd
loop-last-preserved c =
    let l = c.loop-last in
    let e = c.in-Some.ensures.cases in
    let n = length c.args.line.now in
    let z : closing_run l.rest.now ≡ suc (closing_run c.in-Some.front.now) = ap closing_run e.0 ∙ closing_more c.in-Some.front.now c.in-Some.last.now (eq-eqb _ _ c.if-last-ne92.false) in
    let m : suc (n - length l.rest.now) ≡ n - length c.in-Some.front.now = omega (arith, e.1, l.invariant.0) in
    (omega (arith, e.1, l.invariant.0), omega (arith, e.1, l.invariant.0, l.invariant.1, z), ap not l.invariant.2 ∙ ap odd m)

pub returns : goal.returns
unfolding continued
returns c =
    let l = c.loop-last in
    let z = closing_none l.rest.now c.in_default.ensures.cases in
    let q : length c.args.line.now - length l.rest.now ≡ closing_run c.args.line.now = omega (arith, l.invariant.1, z) in
    l.invariant.2 ∙ ap odd q
