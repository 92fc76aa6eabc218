-- Digits, letters and blanks are classes: two bytes that are alike are so by one of them.
use mathlib.Core.Path.{◌≡◌, sym, fun_ext, ◌∙◌}
use Prim.Native.Nat.{ℕ}
use mathlib.Core.Bool.{Bool, true, ◌&&◌, ◌||◌}
use Rattle.lines.specs.Bytes.{blank, digit, letter}
use Rattle.lines.proofs.Bools.{by_cases, or_cases, and_left, and_right}
use Rattle.lines.proofs.ByteClasses.{digit-letter, digit-blank, letter-digit, letter-blank, blank-digit, blank-letter}
use Rattle.values.specs.Spans.{alike}

-- p is a class: with a byte that passes exactly those that pass are alike
abbrev pub Class : (ℕ → Bool) → Type 0
Class p = (b c : ℕ) → p b ≡ true → alike b c ≡ p c

pub digit_class : Class digit
digit_class b c h = rw (h, digit-letter b h, digit-blank b h) (by_cases (digit c) (λ e. rw e) (λ e. rw e))

pub letter_class : Class letter
letter_class b c h = rw (letter-digit b h, h, letter-blank b h) (by_cases (letter c) (λ e. rw e) (λ e. rw e))

pub blank_class : Class blank
blank_class b c h = rw (blank-digit b h, blank-letter b h, h)

-- ---- two bytes

-- one class has both bytes
pub shared : {X : Type 0} (b c : ℕ) → alike b c ≡ true → ((p : ℕ → Bool) → Class p → p b ≡ true → p c ≡ true → X) → X
shared {X} b c e f =
    or_cases (digit b && digit c || letter b && letter c) (blank b && blank c) e
    (λ e. or_cases (digit b && digit c) (letter b && letter c) e (by digit digit_class) (by letter letter_class))
    (by blank blank_class)
  where
    by : (p : ℕ → Bool) → Class p → (p b && p c) ≡ true → X
    by p k e = f p k (and_left (p b) (p c) e) (and_right (p b) (p c) e)

pub alike_same : (b c : ℕ) → alike b c ≡ true → alike b ≡ alike c
alike_same b c e = shared b c e (λ p k x y. fun_ext (λ d. k b d x ∙ sym (k c d y)))
