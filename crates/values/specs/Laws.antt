-- What is known of the definitions: statements, proved in proofs/Laws.antt.
use Rattle.std.specs.Prelude.{◌≡◌, ℕ, ◌<◌, true, List, [], ◌∷◌, ◌++◌, length, drop}
use Rattle.std.proofs.Math.Option.{some}
use Rattle.lines.specs.Bytes.{Bytes, blank, digit, all}
use Rattle.lines.specs.Trim.{trimmed}
use Rattle.lines.specs.Answers.{refused}
use Rattle.lines.specs.Laws.{All}
use Rattle.values.specs.Spans.{decimal, second, scale_in, units, longest, alike, runs, Part, span_parts, microseconds, limited, span_of}

-- ---- runs

-- The first run of a text is its first byte with all bytes alike to it that follow at once; behind it stand
-- the runs of the rest.
abbrev pub RunsLongest : Type 0
RunsLongest = (b : ℕ) (bs : Bytes)
    → runs (b ∷ bs) ≡ (b ∷ longest (alike b) bs) ∷ runs (drop (length (longest (alike b) bs)) bs)

-- ---- the form of a span, said once more: by the texts that have it

-- a part as it is written: digits, blanks or none, the name of a unit with its scale, blanks or none
pub record Spelling : Type 0 where
  pub digits : Bytes
  pub gap : Bytes
  pub name : Bytes
  pub scale : ℕ
  pub behind : Bytes

-- so it has to be: one or more digits, blanks that are blanks, and such a unit
pub record SoundPart (p : Spelling) : Type 0 where
  pub some_digit : 0 < length p.digits
  pub all_digits : all digit p.digits ≡ true
  pub gap_blank : all blank p.gap ≡ true
  pub unit : scale_in units p.name ≡ some p.scale
  pub behind_blank : all blank p.behind ≡ true

-- the bytes of a part
abbrev pub spelt : Spelling → Bytes
spelt p = p.digits ++ p.gap ++ p.name ++ p.behind

-- And of parts, one after the other. Where all are sound, a name is followed by a blank, by the first digit of
-- the next part, or by the end; so it is the longest run of letters there.
abbrev pub all_spelt : List Spelling → Bytes
all_spelt [] = []
all_spelt (p ∷ ps) = spelt p ++ all_spelt ps

-- what a part means
abbrev pub meant : Spelling → Part
meant p = record { number = decimal p.digits; scale = p.scale }

-- what each of them means
abbrev pub all_meant : List Spelling → List Part
all_meant [] = []
all_meant (p ∷ ps) = meant p ∷ all_meant ps

-- digits alone, with blanks or none around them
pub record Seconds (t : Bytes) (ps : List Part) : Type 0 where
  pub before : Bytes
  pub digits : Bytes
  pub behind : Bytes
  pub text : t ≡ before ++ digits ++ behind
  pub before_blank : all blank before ≡ true
  pub some_digit : 0 < length digits
  pub all_digits : all digit digits ≡ true
  pub behind_blank : all blank behind ≡ true
  pub part : ps ≡ record { number = decimal digits; scale = second } ∷ []

-- one or more parts, with blanks or none before them
pub record Parts (t : Bytes) (ps : List Part) : Type 0 where
  pub before : Bytes
  pub list : List Spelling
  pub text : t ≡ before ++ all_spelt list
  pub before_blank : all blank before ≡ true
  pub some_part : 0 < length list
  pub sound : All SoundPart list
  pub parts : ps ≡ all_meant list

-- a text with the form of a span, and its parts: it is one or the other
pub data Spells (t : Bytes) (ps : List Part) : Type 0 where
  as_seconds : Seconds t ps → Spells t ps
  as_parts : Parts t ps → Spells t ps

-- by the definition of a span these texts have the form, with these parts
abbrev pub SpelledHasForm : Type 0
SpelledHasForm = (t : Bytes) (ps : List Part) → Spells t ps → span_parts (trimmed t) ≡ some ps

-- and no others have it
abbrev pub FormIsSpelled : Type 0
FormIsSpelled = (t : Bytes) (ps : List Part) → span_parts (trimmed t) ≡ some ps → Spells t ps

-- so the answer is the sum of the parts where a text has the form, or 32 where that is too large,
abbrev pub SpelledAnswer : Type 0
SpelledAnswer = (t : Bytes) (ps : List Part) → Spells t ps → span_of t ≡ limited (microseconds ps)

-- and 31 for every other text
abbrev pub OtherAnswer : Type 0
OtherAnswer = (t : Bytes) → ((ps : List Part) → Spells t ps → ⊥) → span_of t ≡ refused 31 0
