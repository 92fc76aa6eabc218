-- `compare_other`: the call on the second file, then the copy and the comparison.
use native.Mathlib.Omega.{arith}
use Rattle.claims.proofs.FileTexts.{into_text}
use Rattle.claims.proofs.Alike.{compares_accepted, compares_refused}
use Rattle.claims.proofs.two_texts.compare_other.Goals as goal

pub slice_bounds-same-end : goal.slice_bounds-same-end
slice_bounds-same-end c = let a = c.args in
    omega (arith, (into_text a.other.now a.other_out.now c.normal_into.result _ c.normal_into.ensures _ c.in-Ok.is).inside)

pub returns-in-Ok : goal.returns-in-Ok
returns-in-Ok c = let a = c.args in
    compares_accepted a.text.now a.other.now a.out.now a.other_out.now c.normal_into.result _ c.requires.1 c.normal_into.ensures _ c.in-Ok.is c.requires.0 _ c.copy_into.ensures.held c.same.result c.same.ensures

pub returns-in-Err : goal.returns-in-Err
returns-in-Err c = let a = c.args in
    compares_refused a.text.now a.other.now a.out.now a.other_out.now c.normal_into.result _ c.requires.1 c.normal_into.ensures _ c.in-Err.is
