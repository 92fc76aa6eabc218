-- What is known of the definitions: statements, proved in proofs/Laws.antt.
use Rattle.std.specs.Prelude.{◌≡◌, ℕ, ◌+◌, ◌*◌, ◌≤◌, ◌<◌, true, false, List, ◌∷◌, ◌++◌, length, get_or}
use Rattle.std.proofs.Math.Option.{none, some}
use Rattle.lines.specs.Bytes.{Bytes}
use Rattle.lines.specs.Answers.{Outcome, accepted, refused}
use Rattle.lines.specs.Buffers.{filled}
use Rattle.lines.specs.Laws.{All}
use Rattle.table.specs.Tables.{Entry, Table, names, entries, verdict}
use Rattle.table.specs.Contents.{text_of, section_numbers, entry_numbers}
use Rattle.lookup.specs.Decoding.{part, Lent, lent, Decoded, table_in}
use Rattle.lookup.specs.Questions.{is_entry, indexes_from, first_of, last_of, asked, Part, index_in, value_in, part_in}
use Rattle.lookup.specs.declared.search.Which.{Which}

-- ---- what a table is

-- the counts do not pass the buffers, and no record among them is faulty
pub record Sound (b : Lent) : Type 0 where
  pub sections_there : 2 * b.section_count ≤ length b.section_numbers
  pub entries_there : 5 * b.entry_count ≤ length b.entry_numbers
  pub names : (j : ℕ) → j < b.section_count
      → get_or b.section_numbers (2 * j) 0 + get_or b.section_numbers (2 * j + 1) 0 ≤ length b.text
  pub sections : (i : ℕ) → i < b.entry_count → get_or b.entry_numbers (5 * i) 0 < b.section_count
  pub keys : (i : ℕ) → i < b.entry_count
      → get_or b.entry_numbers (5 * i + 1) 0 + get_or b.entry_numbers (5 * i + 2) 0 ≤ length b.text
  pub values : (i : ℕ) → i < b.entry_count
      → get_or b.entry_numbers (5 * i + 3) 0 + get_or b.entry_numbers (5 * i + 4) 0 ≤ length b.text

-- there is a table exactly where this holds; else every question is 41
abbrev pub TableMeans : Type 0
TableMeans = (b : Lent) → ((t : Decoded) → table_in b ≡ some t → Sound b) × (Sound b → (t : Decoded) × (table_in b ≡ some t))

-- it has as many names and entries as the counts say
abbrev pub TableCounts : Type 0
TableCounts = (b : Lent) (t : Decoded) → table_in b ≡ some t → (length t.names ≡ b.section_count) × (length t.entries ≡ b.entry_count)

-- ---- what first and last mean

-- none of these entries is of a section named x and has the key k
abbrev pub NoneOf : (ns : List Bytes) (x k : Bytes) → List Entry → Type 0
NoneOf ns x k es = All (λ (e : Entry). is_entry ns x k e ≡ false) es

-- the entry with index i is such an entry; front and back are those before it and behind it
pub record Stands (ns : List Bytes) (x k : Bytes) (es : List Entry) (i : ℕ) : Type 0 where
  pub front : List Entry
  pub entry : Entry
  pub back : List Entry
  pub list : es ≡ front ++ entry ∷ back
  pub index : i ≡ length front
  pub is_one : is_entry ns x k entry ≡ true

-- the first: none in front of it is one
abbrev pub FirstMeans : Type 0
FirstMeans = (ns : List Bytes) (x k : Bytes) (es : List Entry) (i : ℕ) → first_of (indexes_from 0 ns x k es) ≡ some i
    → (s : Stands ns x k es i) × NoneOf ns x k s.front

-- the last: none behind it is one
abbrev pub LastMeans : Type 0
LastMeans = (ns : List Bytes) (x k : Bytes) (es : List Entry) (i : ℕ) → last_of (indexes_from 0 ns x k es) ≡ some i
    → (s : Stands ns x k es i) × NoneOf ns x k s.back

-- there is neither exactly where no entry is one
abbrev pub NoneMeans : Type 0
NoneMeans = (w : Which) (ns : List Bytes) (x k : Bytes) (es : List Entry)
    → (asked w (indexes_from 0 ns x k es) ≡ none → NoneOf ns x k es) × (NoneOf ns x k es → asked w (indexes_from 0 ns x k es) ≡ none)

-- an index that was found in what is lent is that of such an entry, and asks for its value
pub record FoundEntry (b : Lent) (x k : Bytes) (i : ℕ) : Type 0 where
  pub table : Decoded
  pub there : table_in b ≡ some table
  pub stands : Stands table.names x k table.entries i
  pub value : value_in b i ≡ accepted stands.entry.value

abbrev pub FoundIsEntry : Type 0
FoundIsEntry = (b : Lent) (w : Which) (x k : Bytes) (i : ℕ) → index_in b w x k ≡ accepted i → FoundEntry b x k i

-- ---- the part that a value is

-- where there is a value, its part is inside the text and is the value; else both questions have the same refusal
abbrev pub PartOfValue : Lent → ℕ → Outcome Part → Type 0
PartOfValue b i (accepted p) = (p.start + p.size ≤ length b.text) × (value_in b i ≡ accepted (part b.text p.start p.size))
PartOfValue b i (refused n q) = value_in b i ≡ refused n q

abbrev pub PartIsValue : Type 0
PartIsValue = (b : Lent) (i : ℕ) → PartOfValue b i (part_in b i)

-- ---- the table of an accepted file

-- what a table decodes to
abbrev pub decoded_of : Table → Decoded
decoded_of t = record { names = names t.events; entries = entries t.events }

-- buffers that the table was read into, over whatever they held, with its counts
abbrev pub read_into : Table → (text : Bytes) (sections entries : List ℕ) → Lent
read_into t d e g =
    lent (filled (text_of t.events) d) (filled (section_numbers t.events) e) (length (names t.events))
    (filled (entry_numbers t.events) g) (length (entries t.events))

-- they hold that table
abbrev pub ReadDecodes : Type 0
ReadDecodes = (f : Bytes) (t : Table) → verdict f ≡ accepted t
    → (d : Bytes) (e g : List ℕ) → table_in (read_into t d e g) ≡ some (decoded_of t)
