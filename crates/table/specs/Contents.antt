-- What the three buffers (the rules' rooms) receive of a table.
use Rattle.std.specs.Prelude.{ℕ, ◌+◌, List, [], ◌∷◌, ◌++◌, length}
use Rattle.lines.specs.Bytes.{Bytes}
use Rattle.table.specs.Tables.{Event, new_section, new_entry}

-- ---- the text buffer

-- a new section's name; an entry's key directly followed by its value
abbrev pub event_text : Event → Bytes
event_text (new_section x) = x
event_text (new_entry e) = e.key ++ e.value

-- in file order
unfoldable pub text_of : List Event → Bytes
text_of [] = []
text_of (e ∷ es) = event_text e ++ text_of es

-- ---- the numbers, for an event whose text starts at index a

-- a section has two: start and length of its name
abbrev pub section_record : ℕ → Event → List ℕ
section_record a (new_section x) = a ∷ length x ∷ []
section_record a (new_entry e) = []

-- an entry has five: section index, key start, key length, value start, value length
abbrev pub entry_record : ℕ → Event → List ℕ
entry_record a (new_section x) = []
entry_record a (new_entry e) = e.section ∷ a ∷ length e.key ∷ (a + length e.key) ∷ length e.value ∷ []

-- the records of events one after another, where the text of the first starts at index a
unfoldable pub records_from : (ℕ → Event → List ℕ) → ℕ → List Event → List ℕ
records_from f a [] = []
records_from f a (e ∷ es) = f a e ++ records_from f (a + length (event_text e)) es

-- the section buffer
abbrev pub section_numbers : List Event → List ℕ
section_numbers es = records_from section_record 0 es

-- the entry buffer
abbrev pub entry_numbers : List Event → List ℕ
entry_numbers es = records_from entry_record 0 es
