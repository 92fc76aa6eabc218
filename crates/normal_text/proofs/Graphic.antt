-- Bytes 20 to 7E are legal in a line, and the bytes of keys and of names are such.
use mathlib.Core.Path.{◌≡◌, refl}
use Prim.Native.Nat.{ℕ, ◌≤◌}
use native.Mathlib.Omega.{arith}
use mathlib.Core.Bool.{Bool, true, not, ◌||◌}
use lib.Dec.{leb, eqb}
use borrow.Author.Tests.{leb-true, le-leb, lt-leb, eqb-true}
use Rattle.lines.specs.Bytes.{Bytes, between, letter, digit, key_byte, header_byte, all}
use Rattle.lines.specs.Laws.{Legal, line_byte}
use Rattle.lines.proofs.Bools.{or_cases, and_left, and_right, and_false, neq_byte, all_imp}
use Rattle.lines.proofs.Legal.{legal_ascii}
use Rattle.table.specs.LineKinds.{one_or_more}
use Rattle.table.proofs.Parts.{one_or_more-all}

-- a byte that is seen, or a space
abbrev pub graphic : ℕ → Bool
graphic b = between 0x20 0x7E b

-- ---- such bytes are legal

graphic_ascii : (b : ℕ) → graphic b ≡ true → leb b 0x7F ≡ true
graphic_ascii b h = le-leb b 0x7F (omega (arith, leb-true b 0x7E (and_right (leb 0x20 b) (leb b 0x7E) h)))

graphic_line_byte : (b : ℕ) → graphic b ≡ true → line_byte b ≡ true
graphic_line_byte b h =
    let low : 0x20 ≤ b = leb-true 0x20 b (and_left (leb 0x20 b) (leb b 0x7E) h) in
    rw (lt-leb b 0x1F (omega arith), and_false (leb 0x00 b), neq_byte graphic 0x7F b refl h, neq_byte graphic 0x0A b refl h)

legal_graphic : (l : Bytes) → all graphic l ≡ true → Legal l
legal_graphic l h = legal_ascii l (all_imp graphic (λ b. leb b 0x7F) graphic_ascii l h) (all_imp graphic line_byte graphic_line_byte l h)

-- ---- keys and names

header_graphic : (b : ℕ) → header_byte b ≡ true → graphic b ≡ true
header_graphic b h = and_left (graphic b) (not (eqb b 0x5B || eqb b 0x5D)) h

-- a range inside
within : (low high b : ℕ) → 0x20 ≤ low → high ≤ 0x7E → between low high b ≡ true → graphic b ≡ true
within low high b p q h =
    let l : low ≤ b = leb-true low b (and_left (leb low b) (leb b high) h) in
    let r : b ≤ high = leb-true b high (and_right (leb low b) (leb b high) h) in
    rw (le-leb 0x20 b (omega arith), le-leb b 0x7E (omega arith))

letter_graphic : (b : ℕ) → letter b ≡ true → graphic b ≡ true
letter_graphic b h =
    or_cases (between 0x41 0x5A b) (between 0x61 0x7A b) h
    (within 0x41 0x5A b (omega arith) (omega arith))
    (within 0x61 0x7A b (omega arith) (omega arith))

key_graphic : (b : ℕ) → key_byte b ≡ true → graphic b ≡ true
key_graphic b h =
    or_cases (letter b || digit b || eqb b 0x2D || eqb b 0x5F) (eqb b 0x2E) h
    (λ h1. or_cases (letter b || digit b || eqb b 0x2D) (eqb b 0x5F) h1
    (λ h2. or_cases (letter b || digit b) (eqb b 0x2D) h2
    (λ h3. or_cases (letter b) (digit b) h3 (letter_graphic b) (within 0x30 0x39 b (omega arith) (omega arith)))
    (λ e. rw (eqb-true b 0x2D e)))
    (λ e. rw (eqb-true b 0x5F e)))
    (λ e. rw (eqb-true b 0x2E e))

pub legal_name : (x : Bytes) → one_or_more header_byte x ≡ true → Legal x
legal_name x h = legal_graphic x (all_imp header_byte graphic header_graphic x (one_or_more-all header_byte x h))

pub legal_key : (k : Bytes) → one_or_more key_byte k ≡ true → Legal k
legal_key k h = legal_graphic k (all_imp key_byte graphic key_graphic k (one_or_more-all key_byte k h))
