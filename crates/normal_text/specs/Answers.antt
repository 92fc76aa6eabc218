-- What the answer of `normal_text` means in the rules, and what a call leaves in the four buffers (the rules' rooms).
use Rattle.std.specs.Prelude.{◌≡◌, ℕ, cond, List, length, ltb, Result, Ok, Err}
use Rattle.lines.specs.Bytes.{Bytes}
use Rattle.lines.specs.Answers.{Outcome, accepted, refused}
use Rattle.lines.specs.Buffers.{filled}
use Rattle.table.specs.Tables.{Table}
use Rattle.table.specs.Answers.{error_means, counts_of, TableLeft, read_in}
use Rattle.normal_text.specs.Sections.{sections_of}
use Rattle.normal_text.specs.NormalText.{normal_text}
use Rattle.table.specs.declared.error.Error.{Error}
use Rattle.normal_text.specs.declared.normal.Sizes.{Sizes}

-- what the answer of `normal_text` means
abbrev pub normal_means : Result Sizes Error → Outcome Sizes
normal_means (Ok s) = accepted s
normal_means (Err e) = error_means e

-- the normal text of a table
abbrev pub normal_of : Table → Bytes
normal_of t = normal_text (sections_of t)

-- the sizes of a table and its normal text
abbrev pub sizes_of : Table → Sizes
sizes_of t = record { length = length (normal_of t); table = counts_of t }

-- or the refusal
abbrev pub sized : Outcome Table → Outcome Sizes
sized (accepted t) = accepted (sizes_of t)
sized (refused n p) = refused n p

-- the output buffer afterwards: the normal text in front, and the rest as it was
abbrev pub out_after : Outcome Table → Bytes → Bytes
out_after (accepted t) d = filled (normal_of t) d
out_after (refused n p) d = d

-- what a call answers and leaves in the four buffers, where this is the outcome; the reader's three hold the table
pub record NormalLeaves (o : Outcome Table) (text : Bytes) (sections entries : List ℕ) (out : Bytes)
    (r : Result Sizes Error) (text' : Bytes) (sections' entries' : List ℕ) (out' : Bytes) : Type 0 where
  pub answer : normal_means r ≡ sized o
  pub left : TableLeft o text sections entries text' sections' entries'
  pub new_out : out' ≡ out_after o out

-- 1 before everything, for any of the four: the output buffer has at least 65,535 bytes. Then it refuses as the reader does.
unfoldable pub normal_in : (text_size sections_size entries_size out_size : ℕ) → Bytes → Outcome Table
unfolding read_in
normal_in text_size sections_size entries_size out_size f =
    cond (ltb out_size 65535) (refused 1 0) (read_in text_size sections_size entries_size f)

-- the promise of `normal_text`: the answer, and the four buffers whole
abbrev pub Normalizes : (f text : Bytes) (sections entries : List ℕ) (out : Bytes)
    (r : Result Sizes Error) (text' : Bytes) (sections' entries' : List ℕ) (out' : Bytes) → Type 0
Normalizes f text sections entries out r text' sections' entries' out' =
    NormalLeaves (normal_in (length text) (length sections) (length entries) (length out) f)
    text sections entries out r text' sections' entries' out'
