-- Time spans, in microseconds. A trimmed text that is digits alone is seconds. Any other is cut into tokens,
-- which have to be numbers and units by twos; the parts that they make are added up.
use Rattle.std.specs.Prelude.{ℕ, zero, suc, ◌+◌, ◌-◌, ◌*◌, Bool, false, ◌&&◌, ◌||◌, cond, List, [], ◌∷◌, length, leb}
use Rattle.std.proofs.Math.Option.{Option, none, some}
use Rattle.lines.specs.Bytes.{Bytes, blank, digit, letter, all, equal}
use Rattle.lines.specs.Text.{bytes}
use Rattle.lines.specs.Trim.{trimmed}
use Rattle.lines.specs.Answers.{Outcome, accepted, refused}

-- ---- numbers

-- one or more decimal digits
unfoldable pub numeral : Bytes → Bool
unfolding all
numeral [] = false
numeral (b ∷ bs) = all digit (b ∷ bs)

-- ten to a power
unfoldable pub tens : ℕ → ℕ
tens zero = 1
tens (suc n) = 10 * tens n

-- the number that digits write: each digit times ten to the power of how many digits stand behind it
unfoldable pub decimal : Bytes → ℕ
unfolding tens
decimal [] = 0
decimal (b ∷ bs) = (b - 0x30) * tens (length bs) + decimal bs

-- ---- units

-- a unit: its name, and how many microseconds it has
pub record TimeUnit : Type 0 where
  pub name : Bytes
  pub scale : ℕ

-- the microseconds of a second,
abbrev pub second : ℕ
second = 1000000

-- a minute,
abbrev pub minute : ℕ
minute = 60 * second

-- an hour,
abbrev pub hour : ℕ
hour = 60 * minute

-- a day of 24 hours
abbrev pub day : ℕ
day = 24 * hour

-- and a week of 7 days
abbrev pub week : ℕ
week = 7 * day

-- the seven units
abbrev pub units : List TimeUnit
units =
    record { name = bytes "us"; scale = 1 } ∷
    record { name = bytes "ms"; scale = 1000 } ∷
    record { name = bytes "s"; scale = second } ∷
    record { name = bytes "min"; scale = minute } ∷
    record { name = bytes "h"; scale = hour } ∷
    record { name = bytes "d"; scale = day } ∷
    record { name = bytes "w"; scale = week } ∷
    []

-- the microseconds of the unit with this name, if there is one
unfoldable pub scale_in : List TimeUnit → Bytes → Option ℕ
unfolding equal
scale_in [] n = none
scale_in (u ∷ us) n = cond (equal n u.name) (some u.scale) (scale_in us n)

-- ---- the runs of a text

-- of one class: both digits, both letters, or both blanks
abbrev pub alike : ℕ → ℕ → Bool
alike a b = (digit a && digit b) || (letter a && letter b) || (blank a && blank b)

-- one byte more at the start of the first run
abbrev pub lengthen : ℕ → List Bytes → List Bytes
lengthen b [] = (b ∷ []) ∷ []
lengthen b (r ∷ rs) = (b ∷ r) ∷ rs

-- A text cut between every two neighbours that are not alike. So each run of digits, letters or blanks is as
-- long as it can be, and any other byte stands alone. No run is empty.
unfoldable pub runs : Bytes → List Bytes
runs [] = []
runs (b ∷ []) = (b ∷ []) ∷ []
runs (b ∷ c ∷ bs) = cond (alike b c) (lengthen b (runs (c ∷ bs))) ((b ∷ []) ∷ runs (c ∷ bs))

-- the bytes at the start that pass, as many as there are (for Laws and Steps, which say what a longest run is)
unfoldable pub longest : (ℕ → Bool) → Bytes → Bytes
longest p [] = []
longest p (b ∷ bs) = cond (p b) (b ∷ longest p bs) []

-- The tokens: the runs that are no blanks. So blanks may stand between a number and its unit and between two
-- parts; two numbers or two names stay apart by them.
unfoldable pub tokens : List Bytes → List Bytes
unfolding all
tokens [] = []
tokens (r ∷ rs) = cond (all blank r) (tokens rs) (r ∷ tokens rs)

-- ---- the form

-- a part: a number, and how many microseconds its unit has
pub record Part : Type 0 where
  pub number : ℕ
  pub scale : ℕ

-- a part, where the unit is known
abbrev pub counted : ℕ → Option ℕ → Option Part
counted n none = none
counted n (some s) = some (record { number = n; scale = s })

-- Two tokens make a part: a number, and the name of a unit. Such a name is letters, and as a token it is the
-- longest run of letters there.
unfoldable pub part_of : Bytes → Bytes → Option Part
unfolding numeral decimal scale_in
part_of n u = cond (numeral n) (counted (decimal n) (scale_in units u)) none

-- one part more, where both it and the others have the form
abbrev pub with_part : Option Part → Option (List Part) → Option (List Part)
with_part none ps = none
with_part (some p) none = none
with_part (some p) (some ps) = some (p ∷ ps)

-- tokens by twos
unfoldable pub parts_of : List Bytes → Option (List Part)
unfolding part_of
parts_of [] = some []
parts_of (n ∷ []) = none
parts_of (n ∷ u ∷ ts) = with_part (part_of n u) (parts_of ts)

-- one or more parts
unfoldable pub one_or_more : List Bytes → Option (List Part)
unfolding parts_of
one_or_more [] = none
one_or_more (t ∷ ts) = parts_of (t ∷ ts)

-- a trimmed text: digits alone are seconds; any other has to be one or more parts, and none where it is not
unfoldable pub span_parts : Bytes → Option (List Part)
unfolding numeral decimal runs tokens one_or_more
span_parts t =
    cond (numeral t) (some (record { number = decimal t; scale = second } ∷ []))
    (one_or_more (tokens (runs t)))

-- ---- the value

-- the sum of each number times its unit
unfoldable pub microseconds : List Part → ℕ
microseconds [] = 0
microseconds (p ∷ ps) = p.number * p.scale + microseconds ps

-- the largest span
abbrev pub largest_span : ℕ
largest_span = 18446744073709551615

-- a number of microseconds; 32 where it is too large
abbrev pub limited : ℕ → Outcome ℕ
limited n = cond (leb n largest_span) (accepted n) (refused 32 0)

-- form before size: 31 where the form is wrong, whatever the numbers
unfoldable pub sized : Option (List Part) → Outcome ℕ
unfolding microseconds
sized none = refused 31 0
sized (some ps) = limited (microseconds ps)

-- a span is read after trimming
unfoldable pub span_of : Bytes → Outcome ℕ
unfolding trimmed span_parts sized
span_of t = sized (span_parts (trimmed t))
