-- `read_number`: the digits read so far have the number `value`.
use native.Mathlib.Omega.{arith}
use Rattle.items.proofs.Digits.{digit-fits, one_digit}
use Rattle.items.proofs.escapes.read_number.Goals as goal

pub overflow_mul-value : goal.overflow_mul-value
overflow_mul-value c =
    let d = digit-fits _ _ _ _ _ c.loop-c.invariant (omega arith) _ c.in_ok-d.ensures c.requires.0 c.requires.1 in
    record { fits = omega (arith, d) }

pub overflow_add-value : goal.overflow_add-value
overflow_add-value c =
    record { fits = digit-fits _ _ _ _ _ c.loop-c.invariant (omega arith) _ c.in_ok-d.ensures c.requires.0 c.requires.1 }

pub loop-c-preserved : goal.loop-c-preserved
loop-c-preserved c = one_digit _ _ _ _ _ c.loop-c.invariant (omega arith) _ c.in_ok-d.ensures c.requires.0
