-- What every call of `read` owes, so that none can refuse everything, give one table for all files, leave its buffers
-- unfilled, or invent a count.
use Rattle.std.specs.Prelude.{◌≡◌, ℕ, [], ◌∷◌, Result}
use Rattle.lines.specs.Bytes.{Bytes}
use Rattle.lines.specs.Text.{bytes}
use Rattle.lines.specs.Answers.{accepted, refused}
use Rattle.lines.specs.Buffers.{filled}
use Rattle.table.specs.Tables.{Table, verdict}
use Rattle.table.specs.Answers.{read_means, counts_of}
use Rattle.table.specs.declared.error.Error.{Error}
use Rattle.table.specs.declared.state.Counts.{Counts}
use Rattle.claims.specs.ReadCalls.{ReadCall}

-- the empty file is not refused
abbrev pub ReadsNothing : Type 0
ReadsNothing = (r : Result Counts Error) → ReadCall (bytes "") r → read_means r ≡ accepted (record { text = 0; sections = 0; entries = 0 })

-- two sections with an entry each, the second with an empty value
abbrev pub two_sections : Bytes
two_sections = bytes "[A]\nK=1\n[B]\nJ=\n"

-- what every call leaves for it
pub record TwoSections (r : Result Counts Error) (c : ReadCall two_sections r) : Type 0 where
  pub answer : read_means r ≡ accepted (record { text = 5; sections = 2; entries = 2 })
  pub new_text : c.new_text ≡ filled (bytes "AK1BJ") c.text
  pub new_sections : c.new_sections ≡ filled (0 ∷ 1 ∷ 3 ∷ 1 ∷ []) c.sections
  pub new_entries : c.new_entries ≡ filled (0 ∷ 1 ∷ 1 ∷ 2 ∷ 1 ∷ 1 ∷ 4 ∷ 1 ∷ 5 ∷ 0 ∷ []) c.entries

-- every call leaves that
abbrev pub ReadsTwo : Type 0
ReadsTwo = (r : Result Counts Error) (c : ReadCall two_sections r) → TwoSections r c

-- so no answer serves both files
abbrev pub NoOneAnswer : Type 0
NoOneAnswer = (r : Result Counts Error) → ReadCall (bytes "") r → ReadCall two_sections r → ⊥

-- a file that is accepted is not refused, and its counts are those of its table
abbrev pub CountsOfTable : Type 0
CountsOfTable = (f : Bytes) (t : Table) (r : Result Counts Error) → verdict f ≡ accepted t → ReadCall f r → read_means r ≡ accepted (counts_of t)

-- this refusal, and the three buffers as they were
pub record RefusedRead (n p : ℕ) {f : Bytes} {r : Result Counts Error} (c : ReadCall f r) : Type 0 where
  pub answer : read_means r ≡ refused n p
  pub text_kept : c.new_text ≡ c.text
  pub sections_kept : c.new_sections ≡ c.sections
  pub entries_kept : c.new_entries ≡ c.entries

-- a file that is refused is not accepted, the refusal is its own, and the buffers are as they were, however late its line
abbrev pub RefusalOfFile : Type 0
RefusalOfFile = (f : Bytes) (n p : ℕ) (r : Result Counts Error) → verdict f ≡ refused n p → (c : ReadCall f r) → RefusedRead n p c
