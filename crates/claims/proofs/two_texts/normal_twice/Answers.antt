-- `normal_twice`: the buffer, then each call by its promise; the second is never refused.
use mathlib.Core.Path.{◌≡◌}
use native.Mathlib.Omega.{arith}
use Rattle.std.proofs.Common.{rules}
use Rattle.std.specs.Prelude.{Err}
use Rattle.claims.proofs.FileTexts.{into_text}
use Rattle.claims.proofs.Twice.{twice_short, twice_refused, twice_never, twice_held}
use Rattle.claims.proofs.two_texts.normal_twice.Goals as goal

pub returns-then-again-lt-OUT_BYTES : goal.returns-then-again-lt-OUT_BYTES
returns-then-again-lt-OUT_BYTES c = twice_short _ _ _ c.if-again-lt-OUT_BYTES.true

pub slice_bounds-normal_into-end : goal.slice_bounds-normal_into-end
slice_bounds-normal_into-end c = let a = c.args in
    omega (arith, (into_text a.file.now a.out.now c.normal_into.result _ c.normal_into.ensures _ c.in_ok-first.was).inside)

pub returns : goal.returns
returns c = let a = c.args in
    twice_held a.file.now a.out.now a.again.now c.if-again-lt-OUT_BYTES.false c.normal_into.result _ c.normal_into.ensures _ c.in_ok-first.was c.normal_into-2.result _ c.normal_into-2.ensures _ c.in_ok-second.was

pub returns-in_err-first : goal.returns-in_err-first
returns-in_err-first c =
    let a = c.args in
    let q : c.from_residual.result ≡ Err c.in_err-first.field-0.0 = search rules in
    rw q (twice_refused a.file.now a.out.now a.again.now c.if-again-lt-OUT_BYTES.false c.normal_into.result _ c.normal_into.ensures _ c.in_err-first.was)

pub returns-in_err-second : goal.returns-in_err-second
returns-in_err-second c = let a = c.args in
    twice_never a.file.now a.out.now a.again.now c.if-again-lt-OUT_BYTES.false c.normal_into.result _ c.normal_into.ensures _ c.in_ok-first.was c.normal_into-2.result _ c.normal_into-2.ensures _ c.in_err-second.was
