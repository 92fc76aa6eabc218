-- What a table is asked: the index of an entry, and an entry's value.
use Rattle.std.specs.Prelude.{ℕ, zero, suc, ◌+◌, ◌*◌, Bool, ◌&&◌, cond, List, [], ◌∷◌, get_or, ltb}
use Rattle.std.proofs.Math.Option.{Option, none, some}
use Rattle.lines.specs.Bytes.{Bytes, equal}
use Rattle.lines.specs.Answers.{Outcome, accepted, refused}
use Rattle.table.specs.Tables.{Entry}
use Rattle.lookup.specs.Decoding.{Lent, Decoded, table_in}
use Rattle.lookup.specs.declared.search.Which.{Which}
use Rattle.lookup.specs.declared.search.Which.TheVariants.{First, Last}

-- ---- look-up by section name and key

-- an entry of a section with the name x, and with the key k; ns are the names of all sections, and in a table the index of
-- an entry's section is always below their number
unfoldable pub is_entry : (ns : List Bytes) (x k : Bytes) → Entry → Bool
unfolding equal
is_entry ns x k e = equal x (get_or ns e.section []) && equal k e.key

-- the indexes of all such entries, in order, where the first of the list has index i
unfoldable pub indexes_from : (i : ℕ) (ns : List Bytes) (x k : Bytes) → List Entry → List ℕ
unfolding is_entry
indexes_from i ns x k [] = []
indexes_from i ns x k (e ∷ es) = cond (is_entry ns x k e) (i ∷ indexes_from (suc i) ns x k es) (indexes_from (suc i) ns x k es)

-- the first of a list
unfoldable pub first_of : List ℕ → Option ℕ
first_of [] = none
first_of (i ∷ is) = some i

-- the last
unfoldable pub last_of : List ℕ → Option ℕ
last_of [] = none
last_of (i ∷ []) = some i
last_of (i ∷ j ∷ js) = last_of (j ∷ js)

-- the first or the last, as asked
abbrev pub asked : Which → List ℕ → Option ℕ
asked First is = first_of is
asked Last is = last_of is

-- ---- an entry's value (the rules' joined text)

-- the value of the entry with an index
unfoldable pub value_at : (i : ℕ) → List Entry → Option Bytes
value_at i [] = none
value_at zero (e ∷ es) = some e.value
value_at (suc i) (e ∷ es) = value_at i es

-- a part of the text: where it starts, and its size in bytes
pub record Part : Type 0 where
  pub start : ℕ
  pub size : ℕ

-- the part that the value is: the fourth and the fifth number of the entry's record
abbrev pub value_part : (i : ℕ) → List ℕ → Part
value_part i ns = record { start = get_or ns (5 * i + 3) 0; size = get_or ns (5 * i + 4) 0 }

-- ---- verdicts; the place of both refusals is 0

-- 41 where a record is faulty or a count passes its buffer, before anything is asked
unfoldable pub on_table : {A : Type 0} → Option Decoded → (Decoded → Outcome A) → Outcome A
on_table none ask = refused 41 0
on_table (some t) ask = ask t

-- 40 where there is no such entry
unfoldable pub or_missing : {A : Type 0} → Option A → Outcome A
or_missing none = refused 40 0
or_missing (some x) = accepted x

-- the index of the first or the last entry of a section and a key
unfoldable pub index_in : Lent → Which → (x k : Bytes) → Outcome ℕ
unfolding table_in on_table or_missing indexes_from first_of last_of
index_in b w x k = on_table (table_in b) (λ t. or_missing (asked w (indexes_from 0 t.names x k t.entries)))

-- the value of the entry with an index
unfoldable pub value_in : Lent → ℕ → Outcome Bytes
unfolding table_in on_table or_missing value_at
value_in b i = on_table (table_in b) (λ t. or_missing (value_at i t.entries))

-- where it stands in the text; 40 where the index is not below the count
unfoldable pub part_in : Lent → ℕ → Outcome Part
unfolding table_in on_table or_missing
part_in b i =
    on_table (table_in b) (λ t. or_missing (cond (ltb i b.entry_count) (some (value_part i b.entry_numbers)) none))
