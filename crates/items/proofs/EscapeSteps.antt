-- Escapes, as the code reads them: what one takes is there, and it gives at most one byte more than it takes behind its
-- backslash.
use mathlib.Core.Path.{◌≡◌, refl}
use Prim.Native.Nat.{ℕ, suc, ◌+◌, ◌≤◌}
use native.Mathlib.Omega.{arith}
use mathlib.Core.Bool.{Bool, true, false, cond}
use Rattle.std.specs.Prelude.{Option, None, Some}
use mathlib.Core.List.{[], ◌∷◌}
use lib.Dec.{eqb, leb}
use lib.ListN.{length}
use borrow.Author.Tests.{leb-true}
use Rattle.lines.specs.Bytes.{Bytes}
use Rattle.lines.specs.Utf8.{encoded}
use Rattle.lines.specs.Answers.{Outcome, accepted, refused}
use Rattle.lines.proofs.Bools.{by_cases}
use Rattle.items.specs.Escapes.{number, Escaped, numeric, byte_of, letters, digit_escape, letter_escape, escape}

-- a number of n digits takes n bytes
number-there : (base n : ℕ) (t : Bytes) (v : ℕ) → number base n t ≡ Some v → n ≤ length t
unfolding number
number-there base n t v h =
    by_cases (leb n (length t)) (λ e. leb-true n (length t) e) (λ e. let z : ◌≡◌ {A = ℕ} 0 1 = cc (rw e at h) in absurd (omega arith))

-- of an accepted escape: what it takes is among n bytes, and it gives at most one byte more
abbrev pub Sized : ℕ → Outcome Escaped → Type 0
Sized n (accepted e) = (e.taken ≤ n) × (length e.bytes ≤ e.taken + 1)
Sized n (refused k p) = Unit {0}

numeric-sized : (allowed : ℕ → Bool) (give : ℕ → Bytes) (taken at n : ℕ) (o : Option ℕ)
    → ((v : ℕ) → o ≡ Some v → taken ≤ n) → ((v : ℕ) → length (give v) ≤ taken + 1) → Sized n (numeric allowed give taken at o)
unfolding numeric
numeric-sized allowed give taken at n None h g = tt
numeric-sized allowed give taken at n (Some v) h g =
    by_cases (allowed v) (λ e. rw e (h v refl, g v)) (λ e. rw e tt)

encoded_short : (v : ℕ) → length (encoded v) ≤ 4
unfolding encoded
encoded_short v =
    by_cases (leb v 0x7F) (λ e. rw e (omega arith))
    (λ e. by_cases (leb v 0x7FF) (λ f. rw (e, f) (omega arith))
    (λ f. by_cases (leb v 0xFFFF) (λ g. rw (e, f, g) (omega arith)) (λ g. rw (e, f, g) (omega arith))))

either : (P : Outcome Escaped → Type 0) (b : Bool) (x y : Outcome Escaped) → P x → P y → P (cond b x y)
either P true x y p q = p
either P false x y p q = q

digits_sized : (at c : ℕ) (t : Bytes) → Sized (suc (length t)) (digit_escape at c t)
unfolding digit_escape
digits_sized at c t =
    either P (eqb c 0x78) _ _
    (numeric-sized _ _ 3 at n (number 16 2 t) (λ v e. omega (arith, number-there 16 2 t v e)) (λ v. omega arith))
    (either P (eqb c 0x75) _ _
    (numeric-sized _ _ 5 at n (number 16 4 t) (λ v e. omega (arith, number-there 16 4 t v e)) (λ v. omega (arith, encoded_short v)))
    (either P (eqb c 0x55) _ _
    (numeric-sized _ _ 9 at n (number 16 8 t) (λ v e. omega (arith, number-there 16 8 t v e)) (λ v. omega (arith, encoded_short v)))
    (numeric-sized _ _ 3 at n (number 8 3 (c ∷ t)) (λ v e. number-there 8 3 (c ∷ t) v e) (λ v. omega arith))))
  where
    n : ℕ
    n = suc (length t)

    P : Outcome Escaped → Type 0
    P = Sized n

letter-sized : (o : Option ℕ) (r : Outcome Escaped) (n : ℕ) → 1 ≤ n → Sized n r → Sized n (letter_escape o r)
unfolding letter_escape
letter-sized None r n l h = h
letter-sized (Some b) r n l h = (l, omega arith)

pub escape-sized : (at : ℕ) (t : Bytes) → Sized (length t) (escape at t)
unfolding escape
escape-sized at [] = tt
escape-sized at (c ∷ t) =
    letter-sized (byte_of letters c) (digit_escape at c t) (suc (length t)) (omega arith) (digits_sized at c t)
