-- `is_below`: what has 64 bits is at most once 2^63, and once exactly where the difference has wrapped.
use Rattle.std.proofs.Common.{◌≡◌, ℕ, ◌+◌, ◌/◌, ◌%◌, ◌^◌, ◌<◌, cond, ltb, arith, rules, ltb-false, ltb-true}
use Rattle.lines.proofs.Bools.{by_cases}
use Rattle.table.proofs.order.is_below.Goals as goal

sign : (a b d : ℕ) → a < 2 ^ 63 → b < 2 ^ 63 → d < 2 ^ 64 → (d + b) % 2 ^ 64 ≡ a → d / 9223372036854775808 ≡ cond (ltb a b) 1 0
sign a b d ha hb hd e =
    by_cases (ltb a b)
    (λ y. let l = ltb-true a b y in rw y (omega (arith, e)))
    (λ y. let l = ltb-false a b y in rw y (omega (arith, e)))

pub returns : goal.returns
returns c =
    record { bit = search rules; sign = λ ha hb. sign _ _ c.wrapping_sub_usize.result ha hb (search rules) c.wrapping_sub_usize.ensures.value }
