-- The table that stands in buffers, whatever text, numbers and counts are lent.
use Rattle.std.specs.Prelude.{ℕ, zero, suc, ◌+◌, Bool, true, false, ◌&&◌, List, [], ◌∷◌, length, take, drop, leb, ltb}
use Rattle.std.proofs.Math.Option.{Option, none, some}
use Rattle.lines.specs.Bytes.{Bytes}
use Rattle.table.specs.Tables.{Entry, entry_in}
use Rattle.lookup.specs.declared.lent.Lent as declared

-- ---- parts of the text

-- n bytes from index a on
abbrev pub part : Bytes → (a n : ℕ) → Bytes
part text a n = take n (drop a text)

-- they are inside the text; the sum is exact
abbrev pub inside : Bytes → (a n : ℕ) → Bool
inside text a n = leb (a + n) (length text)

-- ---- records

-- what a record says, in front of what the records behind it say; none where it is faulty, or one of those is
unfoldable pub followed : {A : Type 0} → (good : Bool) → A → Option (List A) → Option (List A)
followed false x o = none
followed true x none = none
followed true x (some xs) = some (x ∷ xs)

-- The names of m sections, from two numbers each: start and length of the name. A record is faulty that points outside
-- the text; and the numbers may not end before the count does.
unfoldable pub names_in : Bytes → (m : ℕ) → List ℕ → Option (List Bytes)
unfolding followed
names_in text zero ns = some []
names_in text (suc m) [] = none
names_in text (suc m) (a ∷ []) = none
names_in text (suc m) (a ∷ n ∷ ns) = followed (inside text a n) (part text a n) (names_in text m ns)

-- k entries of a table of m sections, from five numbers each: section index, start and length of the key, start and
-- length of the value (the rules' joined text). A record is faulty that points outside the text or past the section
-- count; and the numbers may not end before the count does.
unfoldable pub entries_in : Bytes → (m k : ℕ) → List ℕ → Option (List Entry)
unfolding followed
entries_in text m zero ns = some []
entries_in text m (suc k) [] = none
entries_in text m (suc k) (i ∷ []) = none
entries_in text m (suc k) (i ∷ a ∷ []) = none
entries_in text m (suc k) (i ∷ a ∷ n ∷ []) = none
entries_in text m (suc k) (i ∷ a ∷ n ∷ b ∷ []) = none
entries_in text m (suc k) (i ∷ a ∷ n ∷ b ∷ l ∷ ns) =
    followed (ltb i m && (inside text a n && inside text b l)) (entry_in i (part text a n) (part text b l)) (entries_in text m k ns)

-- ---- tables

-- what a call is lent: the three buffers (the rules' rooms) and the counts of sections and entries; the buffers are lent
-- to be read alone (`&`), so that no call changes them
pub record Lent : Type 0 where
  pub text : Bytes
  pub section_numbers : List ℕ
  pub section_count : ℕ
  pub entry_numbers : List ℕ
  pub entry_count : ℕ

abbrev pub lent : Bytes → List ℕ → ℕ → List ℕ → ℕ → Lent
lent text sections m entries k = record { text = text; section_numbers = sections; section_count = m; entry_numbers = entries; entry_count = k }

-- the same of the code's struct
abbrev pub lent_of : declared.Lent → Lent
lent_of l = lent l.text.now l.sections.now l.section_count l.entries.now l.entry_count

-- a table: the sections' names and the entries, each in the order of their indexes
pub record Decoded : Type 0 where
  pub names : List Bytes
  pub entries : List Entry

-- names and entries together; none where one of them is not there
unfoldable pub together : Option (List Bytes) → Option (List Entry) → Option Decoded
together none es = none
together (some ns) none = none
together (some ns) (some es) = some (record { names = ns; entries = es })

-- the table that is lent; none where a record among the counts is faulty, or a count passes its buffer
unfoldable pub table_in : Lent → Option Decoded
unfolding names_in entries_in together
table_in b =
    together
    (names_in b.text b.section_count b.section_numbers)
    (entries_in b.text b.section_count b.entry_count b.entry_numbers)
