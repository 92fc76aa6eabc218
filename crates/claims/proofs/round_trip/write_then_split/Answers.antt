-- `write_then_split`: the buffers, then each call by its promise.
use native.Mathlib.Omega.{arith}
use borrow.Author.Rules.{rules}
use Rattle.std.proofs.lemmas.Result.{err_from_is_err_and}
use Rattle.claims.proofs.CallsBack.{trip_short_bytes, trip_short_ends, text_inside, trip_write_refused, trip_back}
use Rattle.claims.proofs.round_trip.write_then_split.Goals as goal

pub returns-then-back-lt4096 : goal.returns-then-back-lt4096
returns-then-back-lt4096 c = trip_short_bytes _ _ _ _ _ (omega arith)

pub returns-then-back_ends-lt256 : goal.returns-then-back_ends-lt256
returns-then-back_ends-lt256 c = trip_short_ends _ _ _ _ _ (omega arith) (omega arith)

pub returns-in_err-length : goal.returns-in_err-length
returns-in_err-length c =
    let a = c.args in
    let p = err_from_is_err_and c.from_residual.result c.from_residual.ensures.1 in
    rw (p.1, p.2)
    (trip_write_refused a.bytes.now a.ends.now a.out.now a.back.now a.back_ends.now (omega arith) (omega arith) c.write.new.out _ c.in_err-length.ensures)

pub slice_bounds-split-end : goal.slice_bounds-split-end
slice_bounds-split-end c =
    let a = c.args in
    omega (arith, text_inside a.bytes.now a.ends.now a.out.now a.back.now a.back_ends.now (omega arith) (omega arith) c.write.new.out c.in_ok-length.length c.in_ok-length.ensures)

pub returns : goal.returns
returns c =
    let a = c.args in
    trip_back a.bytes.now a.ends.now a.out.now a.back.now a.back_ends.now (omega arith) (omega arith) c.write.new.out c.in_ok-length.length c.in_ok-length.ensures
    (search rules) c.split.result c.split.new.bytes c.split.new.ends c.split.ensures
