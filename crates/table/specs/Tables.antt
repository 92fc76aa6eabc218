-- The table of a file: one logical line after another is added to it, or refuses the file.
use Rattle.std.specs.Prelude.{ℕ, suc, cond, List, [], ◌∷◌, ◌++◌, length, nat_lt}
use Rattle.std.proofs.Math.Option.{Option, none, some}
use Rattle.lines.specs.Bytes.{Bytes, equal}
use Rattle.lines.specs.Lines.{Line, too_long, logical}
use Rattle.lines.specs.Trim.{trimmed}
use Rattle.lines.specs.Files.{checked_file}
use Rattle.lines.specs.Answers.{Outcome, accepted, refused}
use Rattle.table.specs.LineKinds.{Kind, empty, header, entry, fault, kind}

-- ---- a table

-- an entry: the index of its section, its key, its value
pub record Entry : Type 0 where
  pub section : ℕ
  pub key : Bytes
  pub value : Bytes

-- the entry of a section with this index
abbrev pub entry_in : ℕ → Bytes → Bytes → Entry
entry_in i k v = record { section = i; key = k; value = v }

-- what a line brings
pub data Event : Type 0 where
  new_section : (name : Bytes) → Event
  new_entry : Entry → Event

-- A table as it is read. The rules' table is what the lines so far have brought, in file order. The index of the
-- section that is open, none before any header, serves the lines to come.
pub record Table : Type 0 where
  pub events : List Event
  pub current : Option ℕ

-- before the first line
abbrev pub empty_table : Table
empty_table = record { events = []; current = none }

-- the sections' names, in order of first appearance
unfoldable pub names : List Event → List Bytes
names [] = []
names (new_section x ∷ es) = x ∷ names es
names (new_entry e ∷ es) = names es

-- the entries, in file order
unfoldable pub entries : List Event → List Entry
entries [] = []
entries (new_section x ∷ es) = entries es
entries (new_entry e ∷ es) = e ∷ entries es

-- ---- one line more

-- the index of one behind the first, counted from the first
abbrev pub later : Option ℕ → Option ℕ
later none = none
later (some i) = some (suc i)

-- the index of the first name that is equal to x, none where there is none
unfoldable pub index_of : Bytes → List Bytes → Option ℕ
unfolding equal
index_of x [] = none
index_of x (y ∷ ys) = cond (equal x y) (some 0) (later (index_of x ys))

-- one event more at the end, and the section that is open then
abbrev pub with : Table → Event → ℕ → Table
with t e i = record { events = t.events ++ e ∷ []; current = some i }

-- A header in line n whose name has this index among those before. One that was seen before goes on with its earlier
-- section; a new one opens a section, and the 65th is 10.
unfoldable pub opened : ℕ → Table → Bytes → Option ℕ → Outcome Table
unfolding names
opened n t x (some i) = accepted (record { events = t.events; current = some i })
opened n t x none =
    cond (nat_lt (length (names t.events)) 64)
    (accepted (with t (new_section x) (length (names t.events))))
    (refused 10 n)

-- An entry in line n, where this section is open. Before any header it is 9; the 513th is 10.
unfoldable pub added : ℕ → Table → Bytes → Bytes → Option ℕ → Outcome Table
unfolding entries
added n t k v none = refused 9 n
added n t k v (some i) =
    cond (nat_lt (length (entries t.events)) 512)
    (accepted (with t (new_entry (entry_in i k v)) i))
    (refused 10 n)

-- what a kind of line does to a table
unfoldable pub act : ℕ → Table → Kind → Outcome Table
unfolding opened added index_of names
act n t empty = accepted t
act n t (header x) = opened n t x (index_of x (names t.events))
act n t (entry k v) = added n t k v t.current
act n t (fault c) = refused c n

-- One logical line more: 5 before trimming, then 6, 7, 8 by its kind, then 9 and 10. The place is its first
-- physical line.
unfoldable pub step : Table → Line → Outcome Table
unfolding act kind trimmed
step t l = cond (too_long l) (refused 5 l.number) (act l.number t (kind (trimmed l.bytes)))

-- ---- all lines

-- what is accepted goes on; a refusal is the end
unfoldable pub and_then : {A B : Type 0} → Outcome A → (A → Outcome B) → Outcome B
and_then (accepted x) go = go x
and_then (refused n p) go = refused n p

-- lines one after another: the first faulty one refuses
unfoldable pub run : Table → List Line → Outcome Table
unfolding step and_then
run t [] = accepted t
run t (l ∷ ls) = and_then (step t l) (λ u. run u ls)

-- The verdict on a file, from its bytes alone: 2, 3 and 4 over the whole file, then its logical lines.
unfoldable pub verdict : Bytes → Outcome Table
unfolding checked_file and_then run logical
verdict f = and_then (checked_file f) (λ sound. run empty_table (logical f))
