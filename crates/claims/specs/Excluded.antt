-- Wrong programs that the promises rule out, and that are no small edit of the code: what every call owes for two
-- texts and for two lists, so that it can neither refuse everything, nor give one answer for all, nor leave its
-- buffers unfilled.
use Rattle.std.specs.Prelude.{◌≡◌, ℕ, ◌≤◌, List, [], ◌∷◌, length, Result}
use Rattle.lines.specs.Bytes.{Bytes}
use Rattle.lines.specs.Text.{bytes}
use Rattle.lines.specs.Answers.{accepted}
use Rattle.lines.specs.Buffers.{filled}
use Rattle.items.specs.Answers.{split_means, Splits}
use Rattle.items.specs.declared.error.Error.{Error}
use Rattle.items.specs.declared.splitter.Counts.{Counts}
use Rattle.item_writer.specs.Answers.{write_means, Writes}

-- the empty text has no item
abbrev pub SplitsNothing : Type 0
SplitsNothing = (b : Bytes) (e : List ℕ) (r : Result Counts Error) (b' : Bytes) (e' : List ℕ)
    → 4096 ≤ length b → 256 ≤ length e → Splits (bytes "") b e r b' e'
    → split_means r ≡ accepted (record { items = 0; bytes = 0 })

-- what a call leaves for the text `a bc`: two items, their bytes, and their ends
pub record TwoItems (b : Bytes) (e : List ℕ) (r : Result Counts Error) (b' : Bytes) (e' : List ℕ) : Type 0 where
  pub answer : split_means r ≡ accepted (record { items = 2; bytes = 3 })
  pub new_bytes : b' ≡ filled (bytes "abc") b
  pub new_ends : e' ≡ filled (1 ∷ 3 ∷ []) e

-- every call leaves that
abbrev pub SplitsTwo : Type 0
SplitsTwo = (b : Bytes) (e : List ℕ) (r : Result Counts Error) (b' : Bytes) (e' : List ℕ)
    → 4096 ≤ length b → 256 ≤ length e → Splits (bytes "a bc") b e r b' e' → TwoItems b e r b' e'

-- the same for the writer: no item is the empty text, and these two are `a bc`
abbrev pub WritesNothing : Type 0
WritesNothing = (out : Bytes) (r : Result ℕ Error) (out' : Bytes) → 4096 ≤ length out → Writes (bytes "abc") [] out r out'
    → write_means r ≡ accepted 0

abbrev pub WritesTwo : Type 0
WritesTwo = (out : Bytes) (r : Result ℕ Error) (out' : Bytes) → 4096 ≤ length out → Writes (bytes "abc") (1 ∷ 3 ∷ []) out r out'
    → (write_means r ≡ accepted 4) × (out' ≡ filled (bytes "a bc") out)
