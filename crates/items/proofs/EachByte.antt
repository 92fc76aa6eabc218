-- A test that passes at each byte of an item, computed for all of them at once, and what it says of one byte.
use mathlib.Core.Path.{◌≡◌}
use Prim.Native.Nat.{ℕ, zero, suc, ◌≤◌}
use native.Mathlib.Omega.{arith}
use mathlib.Core.Bool.{Bool, true, ◌&&◌}
use lib.Dec.{eqb, leb}
use borrow.Author.Tests.{eqb-true, eqb-false, leb-true}
use Rattle.lines.specs.Bytes.{between}
use Rattle.lines.proofs.Bools.{by_cases, and_left, and_right}

-- from 1 up to a number
abbrev pub up_to : ℕ → (ℕ → Bool) → Bool
up_to zero p = true
up_to (suc n) p = p (suc n) && up_to n p

passes : (p : ℕ → Bool) (n b : ℕ) → up_to n p ≡ true → 1 ≤ b → b ≤ n → p b ≡ true
passes p zero b t l h = absurd (omega arith)
passes p (suc n) b t l h =
    let again : b ≤ n → p b ≡ true = passes p n b (and_right (p (suc n)) (up_to n p) t) l in
    by_cases (eqb b (suc n))
    (λ e. rw (eqb-true b (suc n) e) (and_left (p (suc n)) (up_to n p) t))
    (λ e. again (omega (arith, eqb-false b (suc n) e)))

pub each_byte : (p : ℕ → Bool) → up_to 0xFF p ≡ true → (b : ℕ) → between 1 0xFF b ≡ true → p b ≡ true
each_byte p t b h =
    passes p 0xFF b t (leb-true 1 b (and_left (leb 1 b) (leb b 0xFF) h)) (leb-true b 0xFF (and_right (leb 1 b) (leb b 0xFF) h))
