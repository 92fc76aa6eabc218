-- What is known of the definitions: statements, proved in proofs/Laws.antt.
use Rattle.std.specs.Prelude.{◌≡◌, ℕ, ◌*◌, ◌<◌, ◌≤◌, true, List, [], ◌∷◌, ◌++◌, length}
use Rattle.std.proofs.Math.Option.{none}
use Rattle.lines.specs.Bytes.{Bytes, key_byte, header_byte, blank, all}
use Rattle.lines.specs.Trim.{trim_start, trim_end}
use Rattle.lines.specs.Lines.{Line}
use Rattle.lines.specs.Files.{size}
use Rattle.lines.specs.Answers.{accepted, refused}
use Rattle.lines.specs.Laws.{All, bytes_of}
use Rattle.table.specs.LineKinds.{empty, header, entry, one_or_more, kind}
use Rattle.table.specs.Tables.{Entry, Event, Table, names, entries, index_of, run, verdict}
use Rattle.table.specs.Contents.{text_of, section_numbers, entry_numbers}
use Rattle.table.specs.Answers.{read_in}

-- ---- what the kinds say of a line

-- only the line of no byte is ignored
abbrev pub EmptyLine : Type 0
EmptyLine = (l : Bytes) → kind l ≡ empty → l ≡ []

-- a name in brackets is a header
abbrev pub HeaderMade : Type 0
HeaderMade = (x : Bytes) → one_or_more header_byte x ≡ true → kind (0x5B ∷ x ++ 0x5D ∷ []) ≡ header x

-- and nothing else is
abbrev pub HeaderIsMade : Type 0
HeaderIsMade = (l x : Bytes) → kind l ≡ header x → (l ≡ 0x5B ∷ x ++ 0x5D ∷ []) × (one_or_more header_byte x ≡ true)

-- a line that is a key, blanks, =, blanks, and a value that starts with no blank
pub record EntryParts (l k v : Bytes) : Type 0 where
  pub front : Bytes
  pub back : Bytes
  pub line : l ≡ k ++ front ++ 0x3D ∷ back ++ v
  pub front_blank : all blank front ≡ true
  pub back_blank : all blank back ≡ true
  pub key : one_or_more key_byte k ≡ true
  pub value : trim_start v ≡ v

-- is an entry
abbrev pub EntryMade : Type 0
EntryMade = (l k v : Bytes) → EntryParts l k v → kind l ≡ entry k v

-- and nothing else is
abbrev pub EntryIsMade : Type 0
EntryIsMade = (l k v : Bytes) → kind l ≡ entry k v → EntryParts l k v

-- ---- the tables of accepted files

-- how large a table is: at most n text bytes, 64 sections, 512 entries
pub record Sized (n : ℕ) (t : Table) : Type 0 where
  pub text : length (text_of t.events) ≤ n
  pub few_sections : length (names t.events) ≤ 64
  pub few_entries : length (entries t.events) ≤ 512

-- what is accepted is no larger, and its text has at most as many bytes as the file counts
abbrev pub TableFits : Type 0
TableFits = (f : Bytes) (t : Table) → verdict f ≡ accepted t → Sized (size f) t × (size f ≤ 65535)

-- a section has two numbers, and an entry five; so 64 sections and 512 entries fit 128 and 2,560 numbers
abbrev pub RecordsSized : Type 0
RecordsSized = (es : List Event)
    → (length (section_numbers es) ≡ 2 * length (names es)) × (length (entry_numbers es) ≡ 5 * length (entries es))

-- no name is among those before it
abbrev pub Apart : (before : List Bytes) → List Bytes → Type 0
Apart before [] = Unit {0}
Apart before (x ∷ xs) = (index_of x before ≡ none) × Apart (before ++ x ∷ []) xs

-- no section of an accepted file has the name of another
abbrev pub NamesApart : Type 0
NamesApart = (f : Bytes) (t : Table) → verdict f ≡ accepted t → Apart [] (names t.events)

-- each entry stands in a section that there is
abbrev pub EntriesInside : Type 0
EntriesInside = (f : Bytes) (t : Table) → verdict f ≡ accepted t
    → All (λ (e : Entry). e.section < length (names t.events)) (entries t.events)

-- each name is one that a header may have
abbrev pub NamesLegal : Type 0
NamesLegal = (f : Bytes) (t : Table) → verdict f ≡ accepted t
    → All (λ (x : Bytes). one_or_more header_byte x ≡ true) (names t.events)

-- a key is a key, and a value has no blank at its ends
pub record EntryLegal (e : Entry) : Type 0 where
  pub key : one_or_more key_byte e.key ≡ true
  pub starts : trim_start e.value ≡ e.value
  pub ends : trim_end e.value ≡ e.value

-- this holds of each entry
abbrev pub EntriesLegal : Type 0
EntriesLegal = (f : Bytes) (t : Table) → verdict f ≡ accepted t → All EntryLegal (entries t.events)

-- a file is refused with 2 to 10 only
abbrev pub RefusalNumbers : Type 0
RefusalNumbers = (f : Bytes) (n p : ℕ) → verdict f ≡ refused n p → (2 ≤ n) × (n ≤ 10)

-- ---- line numbers and offsets do not decide what is accepted

-- lines with the same bytes bring the same to a table, or both are refused
abbrev pub NumbersDecideNothing : Type 0
NumbersDecideNothing = (ls ms : List Line) → bytes_of ls ≡ bytes_of ms → (t u : Table) → run t ls ≡ accepted u → run t ms ≡ accepted u

-- ---- the verdict on a call

-- with buffers of the sizes that are asked for, it is the verdict on the file
abbrev pub ReadDecided : Type 0
ReadDecided = (text_size sections_size entries_size : ℕ) (f : Bytes) → 65535 ≤ text_size → 128 ≤ sections_size → 2560 ≤ entries_size
    → read_in text_size sections_size entries_size f ≡ verdict f
