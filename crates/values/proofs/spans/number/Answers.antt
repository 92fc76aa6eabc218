-- `number`: the digits read so far write no larger a number than all of them.
use mathlib.Core.Path.{sym}
use Prim.Native.Nat.{◌+◌}
use native.Mathlib.Omega.{arith}
use Rattle.values.proofs.Numbers.{decimal_nil, decimal_more, decimal-take, digit-at}
use Rattle.values.proofs.spans.number.Goals as goal

pub loop-b-init : goal.loop-b-init
loop-b-init c = sym decimal_nil

pub overflow_sub-b : goal.overflow_sub-b
overflow_sub-b c = digit-at _ _ c.requires (omega arith)

pub returns-in_err-checked_mul : goal.returns-in_err-checked_mul
returns-in_err-checked_mul c =
    let t = c.args.digits.now in
    let i = c.loop-b.b-index in
    rw c.from_residual.ensures (omega (arith, c.in_err-checked_mul.ensures, decimal_more t i (omega arith), decimal-take t (i + 1)))

pub returns-in_err-n : goal.returns-in_err-n
returns-in_err-n c =
    let t = c.args.digits.now in
    let i = c.loop-b.b-index in
    rw c.from_residual-in_err-n.ensures (omega (arith, c.in_err-n.ensures, decimal_more t i (omega arith), decimal-take t (i + 1)))

pub loop-b-preserved : goal.loop-b-preserved
loop-b-preserved c = omega (arith, decimal_more c.args.digits.now c.loop-b.b-index (omega arith))
