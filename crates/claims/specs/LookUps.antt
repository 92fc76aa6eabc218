-- Demand 2, look-up: in the buffers that an accepted read has left, with the counts of its answer, the calls find the
-- entries of the file's table and hand back their values.
use Rattle.std.specs.Prelude.{◌≡◌, ℕ, cond, List, ltb, length, Result, Ok, Err}
use Rattle.lines.specs.Bytes.{Bytes}
use Rattle.lines.specs.Answers.{Outcome, accepted, refused}
use Rattle.lines.specs.Buffers.{filled}
use Rattle.table.specs.Tables.{Entry, Table, names, entries, and_then, verdict}
use Rattle.table.specs.Answers.{read_means, Reads}
use Rattle.table.specs.Answers as table
use Rattle.table.specs.declared.error.Error.{Error}
use Rattle.table.specs.declared.state.Counts.{Counts}
use Rattle.lookup.specs.Decoding.{part, Lent, lent}
use Rattle.lookup.specs.Questions.{indexes_from, asked, value_at, or_missing, Part, index_in, part_in}
use Rattle.lookup.specs.Answers.{find_means, value_means, bytes_or, HandsBack}
use Rattle.lookup.specs.Answers as lookup
use Rattle.lookup.specs.Laws.{NoneOf, Stands}
use Rattle.lookup.specs.declared.search.Which.{Which}
use Rattle.lookup.specs.declared.search.Which.TheVariants.{First, Last}
use Rattle.lookup.specs.declared.error.Error as missing
use Rattle.lookup.specs.declared.values.Part as declared
use Rattle.claims.specs.declared.look_up.Found.{Found}
use Rattle.claims.specs.declared.look_up.LookUpError.{LookUpError}
use Rattle.claims.specs.declared.look_up.LookUpError.TheVariants.{NotRead, NotFound}

-- ---- what the table of a file says

-- the index of the first or the last entry of a section named x with the key k, or 40
unfoldable pub index_in_table : Table → Which → (x k : Bytes) → Outcome ℕ
unfolding or_missing indexes_from names entries
index_in_table t w x k = or_missing (asked w (indexes_from 0 (names t.events) x k (entries t.events)))

-- the value (the rules' joined text) of the entry with an index, or 40
unfoldable pub value_in_table : Table → ℕ → Outcome Bytes
unfolding or_missing value_at entries
value_in_table t i = or_missing (value_at i (entries t.events))

-- ---- from what the calls promise

-- a call of `read` that was accepted: what the buffers held, what it left in them, and the counts of its answer
pub record AcceptedRead (f : Bytes) : Type 0 where
  pub text_before : Bytes
  pub sections_before : List ℕ
  pub entries_before : List ℕ
  pub text : Bytes
  pub sections : List ℕ
  pub entries : List ℕ
  pub answer : Result Counts Error
  pub counts : Counts
  pub promise : Reads f text_before sections_before entries_before answer text sections entries
  pub accepted_with : read_means answer ≡ accepted counts

-- the buffers and the counts, lent to a call of look-up
abbrev pub lent_after : {f : Bytes} → AcceptedRead f → Lent
lent_after c = lent c.text c.sections c.counts.sections c.entries c.counts.entries

-- the file has a table then
abbrev pub TableThere : Type 0
TableThere = (f : Bytes) → AcceptedRead f → (t : Table) × (verdict f ≡ accepted t)

-- `find` answers what the file's table says
abbrev pub FindAfterRead : Type 0
FindAfterRead = (f : Bytes) (t : Table) → verdict f ≡ accepted t → (c : AcceptedRead f)
    → (w : Which) (x k : Bytes) (r : Result ℕ missing.Error) → find_means r ≡ index_in (lent_after c) w x k
    → find_means r ≡ index_in_table t w x k

-- `value` hands back what the file's table says, no bytes where there is no such entry
abbrev pub ValueAfterRead : Type 0
ValueAfterRead = (f : Bytes) (t : Table) → verdict f ≡ accepted t → (c : AcceptedRead f)
    → (i : ℕ) (at p : ℕ × ℕ) (v : Bytes) → HandsBack (lent_after c) i at p v → v ≡ bytes_or (value_in_table t i)

-- the part of the text that a value is, or the same refusal
abbrev pub PartFor : (text : Bytes) → Outcome Bytes → Outcome Part → Type 0
PartFor text (accepted v) (accepted p) = part text p.start p.size ≡ v
PartFor text (accepted v) (refused n q) = ⊥
PartFor text (refused n q) o = o ≡ refused n q

-- `value_check` tells where the value of the file's entry stands, or 40; so never 41
abbrev pub CheckAfterRead : Type 0
CheckAfterRead = (f : Bytes) (t : Table) → verdict f ≡ accepted t → (c : AcceptedRead f)
    → (i : ℕ) (r : Result declared.Part missing.Error) → value_means r ≡ part_in (lent_after c) i → PartFor c.text (value_in_table t i) (value_means r)

-- no entry before it, or behind it, is one too
abbrev pub Ends : {ns : List Bytes} {x k : Bytes} {es : List Entry} {i : ℕ} → Which → Stands ns x k es i → Type 0
Ends {ns} {x} {k} First s = NoneOf ns x k s.front
Ends {ns} {x} {k} Last s = NoneOf ns x k s.back

-- the entry i of a file's table is the first or the last of a section named x with the key k, and v is its value, byte
-- for byte
pub record IsAsked (t : Table) (w : Which) (x k : Bytes) (i : ℕ) (v : Bytes) : Type 0 where
  pub entry : Stands (names t.events) x k (entries t.events) i
  pub ends : Ends w entry
  pub value : v ≡ entry.entry.value

-- so it is for every index that `find` gives and every value that is then asked for
abbrev pub EntryAfterRead : Type 0
EntryAfterRead = (f : Bytes) (t : Table) → verdict f ≡ accepted t → (c : AcceptedRead f)
    → (w : Which) (x k : Bytes) (r : Result ℕ missing.Error) → find_means r ≡ index_in (lent_after c) w x k
    → (i : ℕ) → find_means r ≡ accepted i
    → (at p : ℕ × ℕ) (v : Bytes) → HandsBack (lent_after c) i at p v → IsAsked t w x k i v

-- and `find` gives 40 exactly where no entry of the table is one
abbrev pub MissingAfterRead : Type 0
MissingAfterRead = (f : Bytes) (t : Table) → verdict f ≡ accepted t → (c : AcceptedRead f)
    → (w : Which) (x k : Bytes) (r : Result ℕ missing.Error) → find_means r ≡ index_in (lent_after c) w x k
    → (find_means r ≡ refused 40 0 → NoneOf (names t.events) x k (entries t.events))
    × (NoneOf (names t.events) x k (entries t.events) → find_means r ≡ refused 40 0)

-- ---- one function that makes the three calls

-- where an entry is, and what it has: its index, and its value
pub record Located : Type 0 where
  pub index : ℕ
  pub value : Bytes

-- what `read_then_find` answers: 1 where its buffer has fewer than 65,535 bytes; the refusal of the file; 40; or the entry
unfoldable pub look_up_in : (out_size : ℕ) → Bytes → Which → (x k : Bytes) → Outcome Located
unfolding and_then verdict index_in_table value_in_table
look_up_in out_size f w x k =
    cond (ltb out_size 65535) (refused 1 0)
    (and_then (verdict f) (λ t. and_then (index_in_table t w x k) (λ i. and_then (value_in_table t i) (λ v. accepted (record { index = i; value = v })))))

-- an index and a length
pub record Shown : Type 0 where
  pub index : ℕ
  pub length : ℕ

-- what its answer means
abbrev pub look_up_means : Result Found LookUpError → Outcome Shown
look_up_means (Ok s) = accepted (record { index = s.index; length = s.length })
look_up_means (Err (NotRead e)) = table.error_means e
look_up_means (Err (NotFound e)) = lookup.error_means e

-- the outcome, with the value's length for the value
abbrev pub shown : Outcome Located → Outcome Shown
shown (accepted s) = accepted (record { index = s.index; length = length s.value })
shown (refused n p) = refused n p

-- its buffer `out` afterwards: the value in front, and the rest as it was
abbrev pub value_after : Outcome Located → Bytes → Bytes
value_after (accepted s) d = filled s.value d
value_after (refused n p) d = d

-- the promise of `read_then_find`
pub record Gets (f : Bytes) (w : Which) (x k : Bytes) (out : Bytes) (r : Result Found LookUpError) (out' : Bytes) : Type 0 where
  pub answer : look_up_means r ≡ shown (look_up_in (length out) f w x k)
  pub new_out : out' ≡ value_after (look_up_in (length out) f w x k) out
