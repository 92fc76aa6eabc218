-- Digits read from left to right: with one digit more the number is multiplied by the base, and the digit added.
-- A number of up to eight digits fits 64 bits.
use mathlib.Core.Path.{◌≡◌, sym, ap, ◌∙◌}
use Prim.Native.Nat.{ℕ, suc, ◌+◌, ◌*◌, ◌^◌, ◌≤◌, ◌<◌}
use native.Mathlib.Nat.{pow-zero, mul-one, pow-suc, mul_assoc, add-mul, mul-le-mul_left, pow-le-pow_right}
use native.Mathlib.Numerals.{add-one}
use native.Mathlib.Omega.{arith}
use mathlib.Core.Bool.{true}
use Rattle.std.specs.Prelude.{Some}
use mathlib.Core.List.{[], ◌∷◌, ◌++◌}
use lib.Arith.{digits_lt}
use lib.Dec.{lit<}
use lib.ListN.{length, take, get_or, length-append}
use lib.Seq.{take-suc, length-take-le}
use Rattle.std.proofs.lemmas.List.{get_or-take}
use Rattle.std.proofs.lemmas.Option.{cond_some}
use borrow.Author.Tests.{ltb-true}
use Rattle.lines.specs.Bytes.{Bytes, all}
use Rattle.lines.proofs.Bools.{all_append}
use Rattle.items.specs.Escapes.{digit_value, digit_of, value}
use Rattle.items.specs.Steps.{digit_in}

-- m · b^(n+1) is b times m · b^n
power_out : (m b n : ℕ) → m * b ^ suc n ≡ m * b ^ n * b
power_out m b n = ap (λ (k : ℕ). m * k) (pow-suc b n) ∙ sym (mul_assoc m (b ^ n) b)

pub value_snoc : (base : ℕ) (a : Bytes) (c : ℕ) → value base (a ++ c ∷ []) ≡ value base a * base + digit_value c
unfolding value
value_snoc base [] c = rw (pow-zero base, mul-one (digit_value c)) (omega arith)
value_snoc base (x ∷ a) c =
    let n : length (a ++ c ∷ []) ≡ suc (length a) = length-append a (c ∷ []) ∙ omega arith in
    rw (n, value_snoc base a c)
    (omega (arith, power_out (digit_value x) base (length a), add-mul (digit_value x * base ^ length a) (value base a) base))

-- the first i of n bytes were read: they are digits, and v is their number
pub record DigitsRead (t : Bytes) (base n i v : ℕ) : Type 0 where
  pub few : i ≤ n
  pub there : n ≤ length t
  pub digits : all (digit_of base) (take i t) ≡ true
  pub value_is : v ≡ value base (take i t)
  pub small : v < 16 ^ i

module _ (t : Bytes) (base n : ℕ) where
  module _ (i v : ℕ) (r : DigitsRead t base n i v) (l : i < length (take n t)) where
    h : i < n
    h = omega (arith, length-take-le n t r.there)

    here : get_or (take n t) i 0 ≡ get_or t i 0
    here = get_or-take n t i 0 h

    module _ (d : ℕ) (q : Some d ≡ digit_in base (get_or (take n t) i 0)) (b : base ≤ 16) where
      known : (digit_of base (get_or t i 0) ≡ true) × (digit_value (get_or t i 0) ≡ d)
      known = rw here at (cond_some (digit_of base (get_or (take n t) i 0)) (digit_value (get_or (take n t) i 0)) d (sym q))

      low : d < base
      low = omega (arith, ltb-true (digit_value (get_or t i 0)) base known.0, known.1)

      grown : v * base + d < 16 ^ (i + 1)
      grown =
          let p : 16 ^ (i + 1) ≡ 16 ^ i * 16 = ap (λ (m : ℕ). 16 ^ m) (omega arith) ∙ pow-suc 16 i in
          omega (arith, p, digits_lt r.small low, mul-le-mul_left (16 ^ i) b)

      -- so neither the product nor the sum wraps
      pub digit-fits : n ≤ 8 → v * base + d < 2 ^ 64
      digit-fits m =
          let k : i + 1 ≤ 8 = omega (arith, h) in
          omega (arith, grown, pow-le-pow_right {n = 16} (lit< tt) k)

      pub one_digit : DigitsRead t base n (i + 1) (v * base + d)
      unfolding all
      one_digit =
          let m : i < length t = omega (arith, r.there, h) in
          let s : take (i + 1) t ≡ take i t ++ get_or t i 0 ∷ [] = rw add-one (take-suc t i 0 m) in
          record {
            few = omega (arith, h);
            there = r.there;
            digits =
                ap (all (digit_of base)) s ∙ all_append (digit_of base) (take i t) (get_or t i 0 ∷ [])
                ∙ rw (r.digits, known.0);
            value_is = sym (ap (value base) s ∙ value_snoc base (take i t) (get_or t i 0) ∙ rw (← r.value_is, known.1));
            small = grown;
          }
