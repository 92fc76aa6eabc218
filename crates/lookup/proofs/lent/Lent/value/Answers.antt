-- `value`: the part that `value_check` tells, or the empty one.
use mathlib.Core.Path.{refl}
use native.Mathlib.Omega.{arith}
use Rattle.lookup.specs.Decoding.{lent_of}
use Rattle.lookup.proofs.Calls.{part-inside, hands_part, hands_nothing}
use Rattle.lookup.proofs.lent.Lent.value.Goals as goal

pub overflow_add-result : goal.overflow_add-result
overflow_add-result c = omega (arith, part-inside (lent_of c.args.self) c.args.index _ _ c.in-Ok.is c.value_check.ensures)

pub slice_bounds-result-end : goal.slice_bounds-result-end
slice_bounds-result-end c = omega (arith, part-inside (lent_of c.args.self) c.args.index _ _ c.in-Ok.is c.value_check.ensures)

pub returns-in-Ok : goal.returns-in-Ok
returns-in-Ok c = hands_part (lent_of c.args.self) c.args.index _ _ c.in-Ok.is c.value_check.ensures c.args.self.text.ref_ptr _ refl (omega arith)

pub returns-in-Err : goal.returns-in-Err
returns-in-Err c = hands_nothing (lent_of c.args.self) c.args.index _ _ c.in-Err.is c.value_check.ensures c.args.self.text.ref_ptr _ refl (omega arith)
