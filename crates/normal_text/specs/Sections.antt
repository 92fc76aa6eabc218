-- The sections of a file, each with its entries: what demand 3 compares.
use Rattle.std.specs.Prelude.{ℕ, suc, cond, List, [], ◌∷◌, eqb}
use Rattle.lines.specs.Bytes.{Bytes}
use Rattle.lines.specs.Answers.{Outcome, accepted}
use Rattle.table.specs.Tables.{Entry, Table, names, entries, and_then, verdict}

-- ---- sections

-- what counts of an entry: its key and its value (the rules' joined text); no place and no index
pub record Pair : Type 0 where
  pub key : Bytes
  pub value : Bytes

abbrev pub pair_of : Entry → Pair
pair_of e = record { key = e.key; value = e.value }

-- a section: its name, and in order its entries, or a part of each
pub record Section (A : Type 0) : Type 0 where
  pub name : Bytes
  pub entries : List A

-- the entries of the section with index i, in order, of each the part that `view` takes
unfoldable pub of_section : {A : Type 0} → (view : Entry → A) → (i : ℕ) → List Entry → List A
of_section view i [] = []
of_section view i (e ∷ es) = cond (eqb e.section i) (view e ∷ of_section view i es) (of_section view i es)

-- sections with these names, the first of which has index i, each with its own of the entries
unfoldable pub sections_from : {A : Type 0} → (view : Entry → A) → (i : ℕ) → List Bytes → List Entry → List (Section A)
unfolding of_section
sections_from view i [] es = []
sections_from view i (x ∷ xs) es = record { name = x; entries = of_section view i es } ∷ sections_from view (suc i) xs es

-- ---- of a table, and of a file

-- the sections of a table in order of first appearance, each with its pairs of key and value in order; the index of an
-- entry's section is that of its header's name, wherever that header stands again
unfoldable pub sections_of : Table → List (Section Pair)
unfolding sections_from names entries
sections_of t = sections_from pair_of 0 (names t.events) (entries t.events)

-- What a file holds, from its bytes alone: its sections with their entries, where it is accepted; else the refusal, one of
-- 2 to 10.
unfoldable pub sections_in : Bytes → Outcome (List (Section Pair))
unfolding and_then verdict sections_of
sections_in f = and_then (verdict f) (λ t. accepted (sections_of t))
