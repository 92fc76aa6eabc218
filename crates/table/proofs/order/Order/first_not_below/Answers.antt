-- `first_not_below`: what is left is inside the order.
use Rattle.std.proofs.Common.{ℕ, zero, suc, ◌-◌, ◌*◌, ◌/◌, ◌≤◌, arith}
use Rattle.table.proofs.order.Order.first_not_below.Goals as goal

-- a product with 0 or 1
times-bit : (h b : ℕ) → b ≤ 1 → h * b ≤ h
times-bit h zero k = omega arith
times-bit h (suc zero) k = omega arith
times-bit h (suc (suc b)) k = absurd (omega arith)

pub overflow_mul-first : goal.overflow_mul-first
overflow_mul-first c =
    let step : let left = c.loop-left.left in (left - left / 2) * c.is_below.result ≤ left - left / 2 = times-bit _ c.is_below.result c.is_below.ensures.bit in
    omega (arith, step)

pub overflow_add-first-in-loop-left : goal.overflow_add-first-in-loop-left
overflow_add-first-in-loop-left c =
    let step : let left = c.loop-left.left in (left - left / 2) * c.is_below.result ≤ left - left / 2 = times-bit _ c.is_below.result c.is_below.ensures.bit in
    omega (arith, step)

pub loop-left-preserved : goal.loop-left-preserved
loop-left-preserved c =
    let step : let left = c.loop-left.left in (left - left / 2) * c.is_below.result ≤ left - left / 2 = times-bit _ c.is_below.result c.is_below.ensures.bit in
    omega (arith, step)
