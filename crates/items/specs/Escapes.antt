-- Escapes, in and out of quotes. An escape is either its bytes or a refusal.
use Rattle.std.specs.Prelude.{Option, Some, None, ℕ, ◌+◌, ◌-◌, ◌*◌, ◌^◌, Bool, not, ◌&&◌, cond, List, [], ◌∷◌, ◌++◌, length, take, eqb, leb, ltb}
use Prim.Native.Char.{code}
use Rattle.lines.specs.Bytes.{Bytes, between, all}
use Rattle.lines.specs.Utf8.{encoded}
use Rattle.lines.specs.Answers.{Outcome, accepted, refused}

-- ---- letters

-- what stands behind the backslash, and the byte that it gives
pub record Letter : Type 0 where
  pub letter : ℕ
  pub byte : ℕ

-- the seven letter escapes: \a \b \f \n \r \t \v
abbrev pub control_letters : List Letter
control_letters =
    record { letter = code "a"; byte = 0x07 } ∷
    record { letter = code "b"; byte = 0x08 } ∷
    record { letter = code "f"; byte = 0x0C } ∷
    record { letter = code "n"; byte = 0x0A } ∷
    record { letter = code "r"; byte = 0x0D } ∷
    record { letter = code "t"; byte = 0x09 } ∷
    record { letter = code "v"; byte = 0x0B } ∷
    []

-- \\ and \", read and written like the seven
abbrev pub sign_letters : List Letter
sign_letters =
    record { letter = code "\\"; byte = 0x5C } ∷
    record { letter = code "\""; byte = 0x22 } ∷
    []

-- \' and \s (a space): read, and never written
abbrev pub read_letters : List Letter
read_letters =
    record { letter = code "'"; byte = 0x27 } ∷
    record { letter = code "s"; byte = 0x20 } ∷
    []

-- all eleven
abbrev pub letters : List Letter
letters = control_letters ++ sign_letters ++ read_letters

-- the byte that a letter gives, if it is listed
unfoldable pub byte_of : List Letter → ℕ → Option ℕ
byte_of [] c = None
byte_of (l ∷ ls) c = cond (eqb c l.letter) (Some l.byte) (byte_of ls c)

-- ---- numbers

-- what a digit stands for, hex digits in either case; 16, which no base here has, for any other byte
abbrev pub digit_value : ℕ → ℕ
digit_value c =
    cond (between 0x30 0x39 c) (c - 0x30)
    (cond (between 0x61 0x66 c) (c - 0x61 + 10)
    (cond (between 0x41 0x46 c) (c - 0x41 + 10)
    16))

-- a digit of this base
abbrev pub digit_of : ℕ → ℕ → Bool
digit_of base c = ltb (digit_value c) base

-- the number that digits write: each times the base to the power of how many digits stand behind it
unfoldable pub value : ℕ → Bytes → ℕ
value base [] = 0
value base (c ∷ cs) = digit_value c * base ^ length cs + value base cs

-- the number that the first n bytes write; none where there are fewer, or one of them is no digit
unfoldable pub number : ℕ → ℕ → Bytes → Option ℕ
unfolding all value
number base n t = cond (leb n (length t) && all (digit_of base) (take n t)) (Some (value base (take n t))) None

-- ---- escapes

-- the bytes that an escape gives, and how many bytes it takes behind its backslash
pub record Escaped : Type 0 where
  pub bytes : Bytes
  pub taken : ℕ

-- a number that \x and the octal form may write: not 0, not above 377 octal
abbrev pub one_byte : ℕ → Bool
one_byte v = between 1 0xFF v

-- a number that \u and \U may write: not 0, not above 10FFFF, none of D800 to DFFF
abbrev pub code_point : ℕ → Bool
code_point v = between 1 0x10FFFF v && not (between 0xD800 0xDFFF v)

-- The escape of a number: 24 where there is none, 25 where it is not allowed. The form is judged first.
unfoldable pub numeric : (allowed : ℕ → Bool) (give : ℕ → Bytes) (taken at : ℕ) → Option ℕ → Outcome Escaped
numeric allowed give taken at None = refused 24 at
numeric allowed give taken at (Some v) =
    cond (allowed v) (accepted (record { bytes = give v; taken = taken })) (refused 25 at)

-- \xHH and \OOO give one byte
abbrev pub byte_escape : (taken at : ℕ) → Option ℕ → Outcome Escaped
byte_escape = numeric one_byte (λ v. v ∷ [])

-- \uHHHH and \UHHHHHHHH give the UTF-8 of the code point
abbrev pub point_escape : (taken at : ℕ) → Option ℕ → Outcome Escaped
point_escape = numeric code_point encoded

-- The forms with digits, by the byte behind the backslash: x, u or U and its digits; what is none of them has to be
-- three octal digits.
unfoldable pub digit_escape : ℕ → ℕ → Bytes → Outcome Escaped
unfolding number numeric encoded
digit_escape at c t =
    cond (eqb c (code "x")) (byte_escape (1 + 2) at (number 16 2 t))
    (cond (eqb c (code "u")) (point_escape (1 + 4) at (number 16 4 t))
    (cond (eqb c (code "U")) (point_escape (1 + 8) at (number 16 8 t))
    (byte_escape 3 at (number 8 3 (c ∷ t)))))

-- a letter where it is one, and a form with digits otherwise
unfoldable pub letter_escape : Option ℕ → Outcome Escaped → Outcome Escaped
letter_escape None other = other
letter_escape (Some b) other = accepted (record { bytes = b ∷ []; taken = 1 })

-- The escape whose backslash stands at an offset, by the text behind the backslash. The place of a refusal is that
-- offset.
unfoldable pub escape : ℕ → Bytes → Outcome Escaped
unfolding byte_of digit_escape letter_escape
escape at [] = refused 24 at
escape at (c ∷ t) = letter_escape (byte_of letters c) (digit_escape at c t)
