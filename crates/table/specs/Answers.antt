-- What the answer of `read` means in the rules, and what a call leaves in the three buffers.
use mathlib.Core.Path.{refl}
use Rattle.std.specs.Prelude.{◌≡◌, ℕ, cond, ◌||◌, List, length, nat_lt, Result, Ok, Err, false, eqb}
use Rattle.lines.specs.Bytes.{Bytes}
use Rattle.lines.specs.Answers.{Outcome, accepted, refused}
use Rattle.lines.specs.Answers as file
use Rattle.lines.specs.Buffers.{filled}
use Rattle.table.specs.Tables.{Table, names, entries, verdict}
use Rattle.table.specs.Contents.{text_of, section_numbers, entry_numbers}
use Rattle.table.specs.declared.error.Error.{Error}
use Rattle.table.specs.declared.error.Error.TheVariants.{File, BadHeader, NoEqualsSign, BadKey, NoSection, TooMany}
use Rattle.table.specs.declared.state.Counts.{Counts}

-- ---- refusals

-- the refusals 1 to 10: number
abbrev pub number_of : Error → ℕ
number_of (File e) = file.number_of e
number_of (BadHeader n) = 6
number_of (NoEqualsSign n) = 7
number_of (BadKey n) = 8
number_of (NoSection n) = 9
number_of (TooMany n) = 10

-- and place: a line, or 0
abbrev pub place_of : Error → ℕ
place_of (File e) = file.place_of e
place_of (BadHeader n) = n
place_of (NoEqualsSign n) = n
place_of (BadKey n) = n
place_of (NoSection n) = n
place_of (TooMany n) = n

-- none has the number 0
pub never_0 : (e : Error) → eqb (number_of e) 0 ≡ false
never_0 (File e) = file.never_0 e
never_0 (BadHeader n) = refl
never_0 (NoEqualsSign n) = refl
never_0 (BadKey n) = refl
never_0 (NoSection n) = refl
never_0 (TooMany n) = refl

-- an error is a refusal
abbrev pub error_means : {A : Type 0} → Error → Outcome A
error_means e = refused (number_of e) (place_of e)

-- ---- reading

-- what the answer of `read` means
abbrev pub read_means : Result Counts Error → Outcome Counts
read_means (Ok c) = accepted c
read_means (Err e) = error_means e

-- the counts of a table
abbrev pub counts_of : Table → Counts
counts_of t =
    record { text = length (text_of t.events); sections = length (names t.events); entries = length (entries t.events) }

-- or the refusal
abbrev pub counted : Outcome Table → Outcome Counts
counted (accepted t) = accepted (counts_of t)
counted (refused n p) = refused n p

-- the text buffer afterwards: the table's text in front, and the rest as it was
abbrev pub text_after : Outcome Table → Bytes → Bytes
text_after (accepted t) d = filled (text_of t.events) d
text_after (refused n p) d = d

-- the section buffer
abbrev pub sections_after : Outcome Table → List ℕ → List ℕ
sections_after (accepted t) d = filled (section_numbers t.events) d
sections_after (refused n p) d = d

-- and the entry buffer
abbrev pub entries_after : Outcome Table → List ℕ → List ℕ
entries_after (accepted t) d = filled (entry_numbers t.events) d
entries_after (refused n p) d = d

-- what a call leaves in the three buffers, where this is the outcome
pub record TableLeft (o : Outcome Table) (text : Bytes) (sections entries : List ℕ) (text' : Bytes) (sections' entries' : List ℕ) : Type 0 where
  pub new_text : text' ≡ text_after o text
  pub new_sections : sections' ≡ sections_after o sections
  pub new_entries : entries' ≡ entries_after o entries

-- and what it answers
pub record ReadLeaves (o : Outcome Table) (text : Bytes) (sections entries : List ℕ)
    (r : Result Counts Error) (text' : Bytes) (sections' entries' : List ℕ) : Type 0 where
  pub answer : read_means r ≡ counted o
  pub left : TableLeft o text sections entries text' sections' entries'

-- 1 before everything: the buffers have at least 65,535 bytes, 128 numbers and 2,560 numbers
unfoldable pub read_in : (text_size sections_size entries_size : ℕ) → Bytes → Outcome Table
unfolding verdict
read_in text_size sections_size entries_size f =
    cond (nat_lt text_size 65535 || (nat_lt sections_size 128 || nat_lt entries_size 2560)) (refused 1 0) (verdict f)

-- the promise of `read`: the answer, and the three buffers whole
abbrev pub Reads : (f text : Bytes) (sections entries : List ℕ)
    (r : Result Counts Error) (text' : Bytes) (sections' entries' : List ℕ) → Type 0
Reads f text sections entries r text' sections' entries' =
    ReadLeaves (read_in (length text) (length sections) (length entries) f) text sections entries r text' sections' entries'
