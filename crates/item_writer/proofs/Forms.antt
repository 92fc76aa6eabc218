-- The three forms of a byte inside quotes, by what `letter_of` answers, and their lengths: one to four.
use mathlib.Core.Path.{◌≡◌, sym}
use Prim.Native.Nat.{ℕ, ◌/◌, ◌%◌, ◌≤◌}
use Prim.Native.Char.{code}
use native.Mathlib.Omega.{arith}
use mathlib.Core.Bool.{true, false}
use Rattle.std.specs.Prelude.{Option, None, Some}
use mathlib.Core.List.{[], ◌∷◌, ◌++◌}
use lib.ListN.{length}
use Rattle.lines.specs.Bytes.{between}
use Rattle.lines.proofs.Bools.{by_cases}
use Rattle.items.specs.Escapes.{control_letters, sign_letters}
use Rattle.items.specs.Write.{letter_of, hex_digit, byte_form, written_byte}

module _ (b : ℕ) where
  pub as_letter : (c : ℕ) → Some c ≡ letter_of (control_letters ++ sign_letters) b → written_byte b ≡ 0x5C ∷ c ∷ []
  unfolding written_byte byte_form
  as_letter c e = rw (sym e)

  module _ (e : None ≡ letter_of (control_letters ++ sign_letters) b) where
    pub as_itself : between 0x20 0x7E b ≡ true → written_byte b ≡ b ∷ []
    unfolding written_byte byte_form
    as_itself k = rw (sym e, k)

    pub as_digits : between 0x20 0x7E b ≡ false
        → written_byte b ≡ 0x5C ∷ code "x" ∷ hex_digit (b / 16) ∷ hex_digit (b % 16) ∷ []
    unfolding written_byte byte_form
    as_digits k = rw (sym e, k)

spelled_length : (o : Option ℕ) (b : ℕ) → (1 ≤ length (byte_form o b)) × (length (byte_form o b) ≤ 4)
unfolding byte_form
spelled_length (Some c) b = (omega arith, omega arith)
spelled_length None b =
    by_cases (between 0x20 0x7E b)
    (λ e. rw e (omega arith, omega arith))
    (λ e. rw e (omega arith, omega arith))

pub byte_length : (b : ℕ) → (1 ≤ length (written_byte b)) × (length (written_byte b) ≤ 4)
unfolding written_byte
byte_length b = spelled_length (letter_of (control_letters ++ sign_letters) b) b
