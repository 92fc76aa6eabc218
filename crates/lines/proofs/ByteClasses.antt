-- The classes of bytes share no byte: blanks lie below digits, and digits below letters.
use mathlib.Core.Path.{◌≡◌, sym, ◌∙◌}
use Prim.Native.Nat.{ℕ, ◌≤◌, ◌<◌}
use native.Mathlib.Omega.{arith}
use mathlib.Core.Bool.{true, false}
use lib.Dec.{leb}
use borrow.Author.Tests.{leb-true, lt-leb, ne_eqb}
use Rattle.lines.specs.Bytes.{between, blank, digit, letter}
use Rattle.lines.proofs.Bools.{or_cases, and_left, and_right, and_false, is_false, impossible}

-- a digit lies at or above 30
pub digit_low : (b : ℕ) → digit b ≡ true → 0x30 ≤ b
digit_low b h = leb-true 0x30 b (and_left (leb 0x30 b) (leb b 0x39) h)

-- a range ends below another
below : (low high b from to : ℕ) → high < from → between low high b ≡ true → between from to b ≡ false
below low high b from to k h =
    rw (lt-leb from b (omega (arith, leb-true b high (and_right (leb low b) (leb b high) h))))

above : (low high b from to : ℕ) → to < low → between low high b ≡ true → between from to b ≡ false
above low high b from to k h =
    rw (lt-leb b to (omega (arith, leb-true low b (and_left (leb low b) (leb b high) h)))) (and_false (leb from b))

-- a blank lies below every digit and letter
no_blank : (low high b : ℕ) → 0x20 < low → between low high b ≡ true → blank b ≡ false
no_blank low high b k h =
    let l : low ≤ b = leb-true low b (and_left (leb low b) (leb b high) h) in
    rw (ne_eqb b 0x20 (omega arith), ne_eqb b 0x09 (omega arith))

pub digit-letter : (b : ℕ) → digit b ≡ true → letter b ≡ false
digit-letter b h = rw (below 0x30 0x39 b 0x41 0x5A (omega arith) h, below 0x30 0x39 b 0x61 0x7A (omega arith) h)

pub digit-blank : (b : ℕ) → digit b ≡ true → blank b ≡ false
digit-blank b h = no_blank 0x30 0x39 b (omega arith) h

pub letter-digit : (b : ℕ) → letter b ≡ true → digit b ≡ false
letter-digit b h =
    or_cases (between 0x41 0x5A b) (between 0x61 0x7A b) h
    (above 0x41 0x5A b 0x30 0x39 (omega arith))
    (above 0x61 0x7A b 0x30 0x39 (omega arith))

pub letter-blank : (b : ℕ) → letter b ≡ true → blank b ≡ false
letter-blank b h =
    or_cases (between 0x41 0x5A b) (between 0x61 0x7A b) h
    (no_blank 0x41 0x5A b (omega arith))
    (no_blank 0x61 0x7A b (omega arith))

pub blank-digit : (b : ℕ) → blank b ≡ true → digit b ≡ false
blank-digit b h = is_false (digit b) (λ e. impossible (sym (digit-blank b e) ∙ h))

pub blank-letter : (b : ℕ) → blank b ≡ true → letter b ≡ false
blank-letter b h = is_false (letter b) (λ e. impossible (sym (letter-blank b e) ∙ h))
