-- `set_alike`: the buffers, the call on the first file, then the second.
use mathlib.Core.Path.{sym}
use lib.Seq.{length-take-le}
use Rattle.claims.proofs.Alike.{alike_short_out, alike_short_other, alike_refused, text_inside, text_fits_out, alike-compared}
use borrow.Author.Rules.{rules}
use Rattle.claims.proofs.two_texts.set_alike.Goals as goal

pub returns-then-out-lt-OUT_BYTES : goal.returns-then-out-lt-OUT_BYTES
returns-then-out-lt-OUT_BYTES c = alike_short_out _ _ _ _ c.if-out-lt-OUT_BYTES.true

pub returns-then-other_out-lt-OUT_BYTES : goal.returns-then-other_out-lt-OUT_BYTES
returns-then-other_out-lt-OUT_BYTES c = alike_short_other _ _ _ _ c.if-other_out-lt-OUT_BYTES.true

pub slice_bounds-compare_other-end : goal.slice_bounds-compare_other-end
slice_bounds-compare_other-end c = let a = c.args in
    sym (length-take-le c.in-Ok.sizes.length c.normal_into.new.out (text_inside a.file.now a.other.now a.out.now a.other_out.now c.if-out-lt-OUT_BYTES.false c.if-other_out-lt-OUT_BYTES.false _ (search rules) c.normal_into.result c.normal_into.new.out c.normal_into.ensures _ c.in-Ok.is))

pub compare_other-requires : goal.compare_other-requires
compare_other-requires c = let a = c.args in
    (text_fits_out a.file.now a.other.now a.out.now a.other_out.now c.if-out-lt-OUT_BYTES.false c.if-other_out-lt-OUT_BYTES.false _ (search rules) c.normal_into.result _ c.normal_into.ensures _ c.in-Ok.is, c.if-other_out-lt-OUT_BYTES.false)

pub returns-in-Ok : goal.returns-in-Ok
returns-in-Ok c = let a = c.args in
    alike-compared a.file.now a.other.now a.out.now a.other_out.now c.if-out-lt-OUT_BYTES.false c.if-other_out-lt-OUT_BYTES.false _ (search rules) c.normal_into.result _ c.normal_into.ensures _ c.in-Ok.is c.compare_other.result _ _ c.compare_other.ensures

pub returns-in-Err : goal.returns-in-Err
returns-in-Err c = let a = c.args in
    alike_refused a.file.now a.other.now a.out.now a.other_out.now c.if-out-lt-OUT_BYTES.false c.if-other_out-lt-OUT_BYTES.false _ (search rules) c.normal_into.result _ c.normal_into.ensures _ c.in-Err.is
