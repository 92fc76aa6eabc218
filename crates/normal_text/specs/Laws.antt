-- Demand 3 over the definitions: statements, proved in proofs/Laws.antt. What calls leave is in claims.
use Rattle.std.specs.Prelude.{◌≡◌, ◌↔◌, ℕ, ◌≤◌, List, length}
use Rattle.lines.specs.Bytes.{Bytes}
use Rattle.lines.specs.Lines.{logical}
use Rattle.lines.specs.Files.{size}
use Rattle.lines.specs.Answers.{accepted}
use Rattle.table.specs.Tables.{Table, verdict}
use Rattle.normal_text.specs.Sections.{Pair, Section, sections_of, sections_in}
use Rattle.normal_text.specs.ByLines.{sections_of_lines}
use Rattle.normal_text.specs.NormalText.{normal_text}
use Rattle.normal_text.specs.Answers.{normal_in}

-- a file that has a table holds its sections
abbrev pub SectionsOfTable : Type 0
SectionsOfTable = (f : Bytes) (t : Table) → verdict f ≡ accepted t → sections_in f ≡ accepted (sections_of t)

-- and holds sections only where it has a table
abbrev pub TableOfSections : Type 0
TableOfSections = (f : Bytes) (ss : List (Section Pair)) → sections_in f ≡ accepted ss
    → (t : Table) × (verdict f ≡ accepted t) × (sections_of t ≡ ss)

-- The sections of an accepted file are the names of its headers, each once, in order of first appearance, and under each the
-- pairs of key and value under all headers of that name, in order: said of its logical lines.
abbrev pub SectionsByLines : Type 0
SectionsByLines = (f : Bytes) (ss : List (Section Pair)) → sections_in f ≡ accepted ss → ss ≡ sections_of_lines (logical f)

-- the normal text is never longer than the file counts; so it fits the output buffer
abbrev pub NormalFits : Type 0
NormalFits = (f : Bytes) (ss : List (Section Pair)) → sections_in f ≡ accepted ss → (length (normal_text ss) ≤ size f) × (size f ≤ 65535)

-- read as a file, it is accepted and holds the same
abbrev pub NormalReads : Type 0
NormalReads = (f : Bytes) (ss : List (Section Pair)) → sections_in f ≡ accepted ss → sections_in (normal_text ss) ≡ accepted ss

-- two accepted files hold the same exactly where their normal texts are equal
abbrev pub NormalTells : Type 0
NormalTells = (f g : Bytes) (ss ts : List (Section Pair)) → sections_in f ≡ accepted ss → sections_in g ≡ accepted ts
    → (ss ≡ ts) ↔ (normal_text ss ≡ normal_text ts)

-- with buffers of the sizes that are asked for, the verdict on a call is that on the file
abbrev pub NormalDecided : Type 0
NormalDecided = (text_size sections_size entries_size out_size : ℕ) (f : Bytes)
    → 65535 ≤ text_size → 128 ≤ sections_size → 2560 ≤ entries_size → 65535 ≤ out_size
    → normal_in text_size sections_size entries_size out_size f ≡ verdict f
