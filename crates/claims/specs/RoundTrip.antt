-- Demand 2, lists of items: written and then split, a list comes back.
use Rattle.std.specs.Prelude.{◌≡◌, ℕ, ◌≤◌, true, ◌||◌, cond, List, ltb, length, take, Result}
use Rattle.lines.specs.Bytes.{Bytes}
use Rattle.lines.specs.Answers.{Outcome, accepted, refused}
use Rattle.lines.specs.Buffers.{filled}
use Rattle.items.specs.Write.{written, ends_fit, items_in, write_in, last_end}
use Rattle.items.specs.Answers.{split_means, Splits}
use Rattle.items.specs.Laws.{Writable}
use Rattle.items.specs.declared.error.Error.{Error}
use Rattle.items.specs.declared.splitter.Counts.{Counts}
use Rattle.item_writer.specs.Answers.{write_means, text_after, Writes}

-- ---- from what the calls promise

-- a list as it is lent: ends that fit, cutting out items that can be written
pub record Lent (bytes : Bytes) (ends : List ℕ) : Type 0 where
  pub fit : ends_fit 0 (length bytes) ends ≡ true
  pub writable : Writable (items_in bytes ends)

-- The write call is accepted, and the written form stands at the front of its buffer, as long as it says.
pub record WriteLeaves (bytes : Bytes) (ends : List ℕ) (w : Result ℕ Error) (out' : Bytes) : Type 0 where
  pub accepted_with : write_means w ≡ accepted (length (written (items_in bytes ends)))
  pub text : take (length (written (items_in bytes ends))) out' ≡ written (items_in bytes ends)

-- so it is for every list that can be written, whatever the buffer held
abbrev pub WriteAccepts : Type 0
WriteAccepts = (bytes : Bytes) (ends : List ℕ) (out : Bytes) (w : Result ℕ Error) (out' : Bytes)
    → Lent bytes ends → 4096 ≤ length out → Writes bytes ends out w out' → WriteLeaves bytes ends w out'

-- The split call is accepted with the number of ends; the bytes and the ends come back, and so does the list that
-- they are; the rest stays.
pub record Back (bytes : Bytes) (ends : List ℕ) (b : Bytes) (e : List ℕ) (r : Result Counts Error) (b' : Bytes) (e' : List ℕ) : Type 0 where
  pub accepted_with : split_means r ≡ accepted (record { items = length ends; bytes = last_end 0 ends })
  pub bytes_came_back : b' ≡ filled (take (last_end 0 ends) bytes) b
  pub ends_came_back : e' ≡ filled ends e
  pub list_back : items_in (take (last_end 0 ends) b') (take (length ends) e') ≡ items_in bytes ends

-- splitting the text that the write call left, as long as its answer says, gives the list back
abbrev pub SplitComesBack : Type 0
SplitComesBack = (bytes : Bytes) (ends : List ℕ) (out : Bytes) (w : Result ℕ Error) (out' : Bytes)
    → Lent bytes ends → 4096 ≤ length out → Writes bytes ends out w out'
    → (n : ℕ) → write_means w ≡ accepted n
    → (b : Bytes) (e : List ℕ) (r : Result Counts Error) (b' : Bytes) (e' : List ℕ)
    → 4096 ≤ length b → 256 ≤ length e → Splits (take n out') b e r b' e' → Back bytes ends b e r b' e'

-- ---- one function that makes both calls

-- what it answers: 1 where one of the three buffers is too short, else what writing answers
unfoldable pub trip_in : (out_size back_size ends_size : ℕ) → Bytes → List ℕ → Outcome Bytes
unfolding write_in
trip_in out_size back_size ends_size bytes ends =
    cond (ltb back_size 4096 || ltb ends_size 256) (refused 1 0) (write_in out_size bytes ends)

-- the counts of what came back
abbrev pub trip_counts : List ℕ → Outcome Bytes → Outcome Counts
trip_counts ends (accepted t) = accepted (record { items = length ends; bytes = last_end 0 ends })
trip_counts ends (refused n p) = refused n p

-- the bytes up to the last end, in front of a buffer
abbrev pub bytes_back : Bytes → List ℕ → Outcome Bytes → Bytes → Bytes
bytes_back bytes ends (accepted t) d = filled (take (last_end 0 ends) bytes) d
bytes_back bytes ends (refused n p) d = d

-- the ends
abbrev pub ends_back : List ℕ → Outcome Bytes → List ℕ → List ℕ
ends_back ends (accepted t) d = filled ends d
ends_back ends (refused n p) d = d

-- The promise of `write_then_split`: where writing accepts the list, the text stands in one buffer, and the bytes and
-- ends of the list have come back in the others; the rest stays. A refused call changes nothing. That it is `split`
-- which gives them back is `SplitComesBack`.
pub record Trip (bytes : Bytes) (ends : List ℕ) (out b : Bytes) (e : List ℕ) (r : Result Counts Error) (out' b' : Bytes) (e' : List ℕ) : Type 0 where
  pub answer : split_means r ≡ trip_counts ends (trip_in (length out) (length b) (length e) bytes ends)
  pub new_out : out' ≡ text_after (trip_in (length out) (length b) (length e) bytes ends) out
  pub new_bytes : b' ≡ bytes_back bytes ends (trip_in (length out) (length b) (length e) bytes ends) b
  pub new_ends : e' ≡ ends_back ends (trip_in (length out) (length b) (length e) bytes ends) e
