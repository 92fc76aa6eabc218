-- Some readings of the rules, as cases. Proved by computing.
use Rattle.std.specs.Prelude.{◌≡◌, ℕ, List, [], ◌∷◌}
use Rattle.lines.specs.Bytes.{Bytes}
use Rattle.lines.specs.Text.{bytes}
use Rattle.lines.specs.Answers.{Outcome, accepted, refused}
use Rattle.lines.specs.Laws.{All}
use Rattle.items.specs.Split.{split_of}
use Rattle.items.specs.Write.{write_in}

-- a text to split, and its items or the refusal
pub record SplitReading : Type 0 where
  pub text : Bytes
  pub outcome : Outcome (List Bytes)

-- no item; a control byte; an open quote; a fault before the end; a closing quote and a backslash; a quote behind an
-- escape; digits that are missing, bytes that are no digits, and numbers that are not allowed; what is data
abbrev pub split_readings : List SplitReading
split_readings =
    record { text = bytes ""; outcome = accepted [] } ∷
    record { text = bytes " \t "; outcome = accepted [] } ∷
    record { text = bytes "a\nb"; outcome = refused 21 1 } ∷
    record { text = bytes "a \"b c"; outcome = refused 23 2 } ∷
    record { text = bytes "\"a\\"; outcome = refused 24 2 } ∷
    record { text = bytes "\"a\"\\q"; outcome = refused 22 3 } ∷
    record { text = bytes "\\sa\""; outcome = refused 22 3 } ∷
    record { text = bytes "\\08"; outcome = refused 24 0 } ∷
    record { text = bytes "\\U0011000"; outcome = refused 24 0 } ∷
    record { text = bytes "\\U00110000"; outcome = refused 25 0 } ∷
    record { text = bytes "\\ud800"; outcome = refused 25 0 } ∷
    record { text = bytes "\\000"; outcome = refused 25 0 } ∷
    record { text = bytes "\\xff"; outcome = accepted ((0xFF ∷ []) ∷ []) } ∷
    record { text = bytes "'a\"b' \\s"; outcome = accepted (bytes "a\"b" ∷ bytes " " ∷ []) } ∷
    []

-- a list to write, as it is lent, and its text or the refusal
pub record WriteReading : Type 0 where
  pub given : Bytes
  pub ends : List ℕ
  pub outcome : Outcome Bytes

-- no item; an empty item; bytes past the last end, a NUL among them; ends that fall or pass the bytes; a NUL in an
-- item; a byte with a letter, one without, and one above 7F
abbrev pub write_readings : List WriteReading
write_readings =
    record { given = bytes "abc"; ends = []; outcome = accepted (bytes "") } ∷
    record { given = bytes "a b"; ends = 3 ∷ 3 ∷ []; outcome = accepted (bytes "\"a b\" \"\"") } ∷
    record { given = 0x61 ∷ 0x00 ∷ []; ends = 1 ∷ []; outcome = accepted (bytes "a") } ∷
    record { given = 0x61 ∷ 0x00 ∷ []; ends = 2 ∷ []; outcome = refused 27 0 } ∷
    record { given = bytes "ab"; ends = 2 ∷ 1 ∷ []; outcome = refused 28 0 } ∷
    record { given = bytes "ab"; ends = 3 ∷ []; outcome = refused 28 0 } ∷
    record { given = 0x09 ∷ 0x1B ∷ 0xE9 ∷ []; ends = 3 ∷ []; outcome = accepted (bytes "\"\\t\\x1b\\xe9\"") } ∷
    []

-- a case holds
abbrev pub SplitReadingHolds : SplitReading → Type 0
SplitReadingHolds r = split_of r.text ≡ r.outcome

-- with a buffer of 4,096 bytes
abbrev pub WriteReadingHolds : WriteReading → Type 0
WriteReadingHolds r = write_in 4096 r.given r.ends ≡ r.outcome

-- all of them do
abbrev pub ReadingsHold : Type 0
ReadingsHold = All SplitReadingHolds split_readings × All WriteReadingHolds write_readings
