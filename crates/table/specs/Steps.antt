-- What the functions inside the crate promise: a name looked for in the buffers, one line more in them, all lines.
-- No public promise cites this file.
use Rattle.std.specs.Prelude.{◌≡◌, ℕ, zero, suc, ◌+◌, ◌*◌, ◌<◌, ◌≤◌, Bool, true, cond, ◌&&◌, List, [], ◌∷◌, length, take, drop, nat_le, slice_index, Option as CodeOption, Some, None, Result, Ok, Err}
use Rattle.std.proofs.Math.Option.{Option, none, some}
use Rattle.lines.specs.Bytes.{Bytes, equal}
use Rattle.lines.specs.Lines.{Line}
use Rattle.lines.specs.Answers.{Outcome, accepted}
use Rattle.lines.specs.Buffers.{filled, put}
use Rattle.lines.specs.Cursors.{logical_from}
use Rattle.table.specs.LineKinds.{Kind, before}
use Rattle.table.specs.Tables.{Table, names, entries, act, step, run}
use Rattle.table.specs.Contents.{text_of, section_numbers, entry_numbers}
use Rattle.table.specs.Answers.{error_means}
use Rattle.table.specs.Laws.{Sized, Apart}
use Rattle.table.specs.declared.state.State.{State}
use Rattle.table.specs.declared.error.Error.{Error}
use Rattle.table.specs.declared.state.Counts.{Counts}
use Rattle.lines.specs.declared.joiner.Cursor.{Cursor}
use Rattle.table.specs.declared.builder.Builder.{Builder}

-- ---- the parts of a line

-- the index of the first byte c, or none where there is none
abbrev pub OffsetFound : (c : ℕ) → Bytes → CodeOption ℕ → Type 0
OffsetFound c l (Some i) = (i < length l) × (i ≡ length (before c l))
OffsetFound c l None = length (before c l) ≡ length l

-- ---- a name among the sections in the buffers

-- the part of a text from a on, n bytes long, is inside the text and equal to the name
unfoldable pub is_named : (name text : Bytes) (a n : ℕ) → Bool
unfolding equal
is_named x text a n = nat_le (a + n) (length text) && equal x (take n (drop a text))

-- the index of the first of so many pairs of numbers whose part is the name, or how many pairs there are
unfoldable pub first_named : (name text : Bytes) → ℕ → List ℕ → ℕ
unfolding is_named
first_named x text zero ns = 0
first_named x text (suc k) [] = 0
first_named x text (suc k) (a ∷ []) = 0
first_named x text (suc k) (a ∷ n ∷ ns) = cond (is_named x text a n) 0 (suc (first_named x text k ns))

-- the pair at an index is one
abbrev pub section_named : (name text : Bytes) (numbers : List ℕ) (index : ℕ) → Bool
section_named x text ns i = is_named x text (slice_index ns (2 * i)) (slice_index ns (2 * i + 1))

-- the index of a pair whose part is the name, or none where no pair's is
abbrev pub SectionFound : (name text : Bytes) (count : ℕ) (numbers : List ℕ) → CodeOption ℕ → Type 0
SectionFound x text n ns (Some i) = (i < n) × (section_named x text ns i ≡ true)
SectionFound x text n ns None = first_named x text n ns ≡ n

-- ---- the state of a table

-- the index of the section that is open, none before any header
abbrev pub current_of : Option ℕ → CodeOption ℕ
current_of none = None
current_of (some i) = Some i

-- how much of the buffers it uses
abbrev pub state_of : Table → State
state_of t = record {
  text = length (text_of t.events);
  sections = length (names t.events);
  entries = length (entries t.events);
  current = current_of t.current;
}

-- a section behind the others, which is open then
pub record SectionPut (x : Bytes) (b b' : Builder) : Type 0 where
  pub state : b'.state ≡ record { text = b.state.text + length x; sections = b.state.sections + 1; entries = b.state.entries; current = Some b.state.sections }
  pub text_put : b'.text ≡ put b.text b.state.text x
  pub numbers_put : b'.sections ≡ put b.sections (2 * b.state.sections) (b.state.text ∷ length x ∷ [])
  pub entries_kept : b'.entries ≡ b.entries

-- an entry behind the others
pub record EntryPut (i : ℕ) (k v : Bytes) (b b' : Builder) : Type 0 where
  pub state : b'.state ≡ record { text = b.state.text + length k + length v; sections = b.state.sections; entries = b.state.entries + 1; current = b.state.current }
  pub text_put : b'.text ≡ put (put b.text b.state.text k) (b.state.text + length k) v
  pub numbers_put : b'.entries ≡ put b.entries (5 * b.state.entries) (i ∷ b.state.text ∷ length k ∷ (b.state.text + length k) ∷ length v ∷ [])
  pub sections_kept : b'.sections ≡ b.sections

-- ---- a line; d, e and g are the buffers as they were at first

-- a table whose names are apart is held, over what the buffers were at first
pub record Holds (t : Table) (b : Builder) (d : Bytes) (e g : List ℕ) : Type 0 where
  pub apart : Apart [] (names t.events)
  pub state : b.state ≡ state_of t
  pub text_is : b.text ≡ filled (text_of t.events) d
  pub sections_are : b.sections ≡ filled (section_numbers t.events) e
  pub entries_are : b.entries ≡ filled (entry_numbers t.events) g

-- what a step leaves; after a refusal nobody reads the buffers
abbrev pub LineTaken : Outcome Table → (d : Bytes) (e g : List ℕ) → Result (Unit {0}) Error → Builder → Type 0
LineTaken o d e g (Ok u) b = (t : Table) × (o ≡ accepted t) × Holds t b d e g
LineTaken o d e g (Err k) b = o ≡ error_means k

-- a line of this kind, with number n, is taken into whatever table is held
abbrev pub TakesLine : Kind → (n : ℕ) (b : Builder) (r : Result (Unit {0}) Error) (b' : Builder) → Type 0
TakesLine k n b r b' = (t : Table) (d : Bytes) (e g : List ℕ) → Holds t b d e g → LineTaken (act n t k) d e g r b'

-- ---- the lines of a file

-- the next line of the file went into the table, and reading goes on behind it
pub record LineRead (f : Bytes) (c : Cursor) (t : Table) (d : Bytes) (e g : List ℕ) (c' : Cursor) (b : Builder) : Type 0 where
  pub line : Line
  pub view : logical_from f c ≡ line ∷ logical_from f c'
  pub table : Table
  pub outcome : step t line ≡ accepted table
  pub holds : Holds table b d e g
  pub inside : c'.offset ≤ length f
  pub later : c.offset < c'.offset
  pub shorter : c.offset + length line.bytes ≤ c'.offset

-- what reading a line leaves
abbrev pub TurnTaken : Bytes → Cursor → Table → (d : Bytes) (e g : List ℕ) → Result (CodeOption Cursor) Error → Builder → Type 0
TurnTaken f c t d e g (Ok (Some q)) b = LineRead f c t d e g q b
TurnTaken f c t d e g (Ok None) b = (logical_from f c ≡ []) × Holds t b d e g
TurnTaken f c t d e g (Err k) b = run t (logical_from f c) ≡ error_means k

-- the next line is read into whatever table is held
abbrev pub ReadsLine : Bytes → Cursor → (b : Builder) (r : Result (CodeOption Cursor) Error) (b' : Builder) → Type 0
ReadsLine f c b r b' = (t : Table) (d : Bytes) (e g : List ℕ) → Holds t b d e g → TurnTaken f c t d e g r b'

-- the counts of a table that is complete
abbrev pub counts_in : State → Counts
counts_in s = record { text = s.text; sections = s.sections; entries = s.entries }

-- all lines were read
pub record AllRead (o : Outcome Table) (d : Bytes) (e g : List ℕ) (b : Builder) : Type 0 where
  pub table : Table
  pub outcome : o ≡ accepted table
  pub holds : Holds table b d e g
  pub sized : Sized 65535 table

-- what reading all lines leaves
abbrev pub ReadInto : Outcome Table → (b : Builder) (r : Result (Unit {0}) Error) (b' : Builder) → Type 0
ReadInto o b (Ok u) b' = AllRead o b.text b.sections b.entries b'
ReadInto o b (Err k) b' = o ≡ error_means k
