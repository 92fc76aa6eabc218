-- The number that digits write, with one digit more at the end.
use mathlib.Core.Path.{◌≡◌, refl, sym, ap, ◌∙◌}
use Prim.Native.Nat.{ℕ, zero, suc, ◌+◌, ◌-◌, ◌*◌, ◌≤◌, ◌<◌}
use native.Mathlib.Omega.{arith}
use native.Mathlib.Nat.{mul_assoc, mul_comm}
use mathlib.Core.Bool.{true}
use mathlib.Core.List.{[], ◌∷◌, ◌++◌, append-nil, append_assoc}
use native.Mathlib.Numerals.{add-one}
use lib.ListN.{length, take, drop, get_or, length-append, take-append-drop}
use lib.Seq.{take-suc}
use Rattle.lines.specs.Bytes.{Bytes, digit, all}
use Rattle.lines.proofs.Bools.{and_left, and_right}
use Rattle.lines.proofs.ByteClasses.{digit_low}
use Rattle.values.specs.Spans.{numeral, tens, decimal}

-- digits that are there
pub some_numeral : (n : Bytes) → 0 < length n → all digit n ≡ true → numeral n ≡ true
unfolding numeral
some_numeral [] l h = absurd (omega arith)
some_numeral (b ∷ bs) l h = h

-- a numeral has digits alone
pub numeral_digits : (n : Bytes) → numeral n ≡ true → all digit n ≡ true
unfolding numeral all
numeral_digits [] h = refl
numeral_digits (b ∷ bs) h = h

-- m · (10 · t) is ten times m · t
ten_out : (m t : ℕ) → m * (10 * t) ≡ m * t * 10
ten_out m t = ap (λ (n : ℕ). m * n) (mul_comm 10 t) ∙ sym (mul_assoc m t 10)

pub decimal_snoc : (a : Bytes) (b : ℕ) → decimal (a ++ b ∷ []) ≡ decimal a * 10 + (b - 0x30)
unfolding decimal tens
decimal_snoc [] b = omega arith
decimal_snoc (x ∷ a) b =
    let n : length (a ++ b ∷ []) ≡ suc (length a) = length-append a (b ∷ []) ∙ omega arith in
    rw (n, decimal_snoc a b) (omega (arith, ten_out (x - 0x30) (tens (length a))))

-- one digit more of a text
pub decimal_more : (t : Bytes) (i : ℕ) → i < length t → decimal (take (i + 1) t) ≡ decimal (take i t) * 10 + (get_or t i 0 - 0x30)
decimal_more t i h = rw (add-one, take-suc t i 0 h) (decimal_snoc (take i t) (get_or t i 0))

-- the first digits write no larger a number
decimal_front : (a r : Bytes) → decimal a ≤ decimal (a ++ r)
decimal_front a [] = rw append-nil (omega arith)
decimal_front a (b ∷ r) =
    let e : decimal (a ++ b ∷ []) ≤ decimal (a ++ b ∷ r) = rw append_assoc at (decimal_front (a ++ b ∷ []) r) in
    omega (arith, e, decimal_snoc a b)

pub decimal-take : (t : Bytes) (i : ℕ) → decimal (take i t) ≤ decimal t
decimal-take t i = rw (take-append-drop i t) at (decimal_front (take i t) (drop i t))

-- a byte among digits is one
pub digit-at : (t : Bytes) (i : ℕ) → all digit t ≡ true → i < length t → 0x30 ≤ get_or t i 0
unfolding all
digit-at [] i h l = absurd (omega arith)
digit-at (b ∷ t) zero h l = digit_low b (and_left (digit b) (all digit t) h)
digit-at (b ∷ t) (suc i) h l = digit-at t i (and_right (digit b) (all digit t) h) (omega arith)

pub decimal_nil : decimal [] ≡ 0
unfolding decimal
decimal_nil = refl
