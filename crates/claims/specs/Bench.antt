-- The sixteen numbered bench cases of the rules: one table, in the rules' order, under one statement.
use Rattle.std.specs.Prelude.{◌≡◌, ℕ, List, [], ◌∷◌}
use Prim.Native.String.{String}
use Rattle.lines.specs.Bytes.{Bytes}
use Rattle.lines.specs.Text.{bytes}
use Rattle.lines.specs.Answers.{Outcome, accepted, refused}
use Rattle.lines.specs.Laws.{All}
use Rattle.table.specs.Tables.{Entry, entry_in, Table, names, entries, verdict}
use Rattle.items.specs.Split.{split_of}
use Rattle.values.specs.Spans.{span_of}
use Rattle.normal_text.specs.Answers.{normal_of}

-- ---- what a row says

-- of an accepted file: the names of its sections, its entries, and its normal text
pub record Held : Type 0 where
  pub sections : List Bytes
  pub entries : List Entry
  pub normal : Bytes

-- the number of the case, what is lent, and what the rules say of it: a result, or number and place of the refusal
pub data Row : Type 0 where
  file : (case : ℕ) → (lent : String) → Outcome Held → Row
  split : (case : ℕ) → (lent : String) → Outcome (List Bytes) → Row
  span : (case : ℕ) → (lent : String) → Outcome ℕ → Row

-- what the table of a file holds
abbrev pub held : Outcome Table → Outcome Held
held (accepted t) = accepted (record { sections = names t.events; entries = entries t.events; normal = normal_of t })
held (refused n p) = refused n p

-- a row holds: the definitions that the promises cite give its answer
abbrev pub RowHolds : Row → Type 0
RowHolds (file n f o) = held (verdict (bytes f)) ≡ o
RowHolds (split n t o) = split_of (bytes t) ≡ o
RowHolds (span n t o) = span_of (bytes t) ≡ o

-- ---- the table

-- no section
abbrev no_section : Outcome Held
no_section = accepted (record { sections = []; entries = []; normal = [] })

-- one section, the entries in it, and the normal text
abbrev one_section : String → List Entry → String → Outcome Held
one_section x es t = accepted (record { sections = bytes x ∷ []; entries = es; normal = bytes t })

-- an entry of the first section
abbrev entry : String → String → Entry
entry k v = entry_in 0 (bytes k) (bytes v)

-- `\n` is LF, `\\` one backslash; 15 has a second row for the number that is one less
abbrev pub bench_rows : List Row
bench_rows =
    file 1 "" no_section
    ∷ file 2 "K=1" (refused 9 1)
    ∷ file 3 "[A]\nK=a\\\\\nJ=b" (one_section "A" (entry "K" "a\\\\" ∷ entry "J" "b" ∷ []) "[A]\nK=a\\\\\nJ=b\n")
    ∷ file 4 "[A]\nK=a\\\n" (one_section "A" (entry "K" "a" ∷ []) "[A]\nK=a\n")
    ∷ file 5 "[A]\nK=a\\\n\nJ=b" (one_section "A" (entry "K" "a" ∷ entry "J" "b" ∷ []) "[A]\nK=a\nJ=b\n")
    ∷ file 6 "[A]\nK=a\\\n#x\\\nb" (one_section "A" (entry "K" "a b" ∷ []) "[A]\nK=a b\n")
    ∷ file 7 "[A]\n K = a=b " (one_section "A" (entry "K" "a=b" ∷ []) "[A]\nK=a=b\n")
    ∷ split 8 "\"a b\" c \"\"" (accepted (bytes "a b" ∷ bytes "c" ∷ bytes "" ∷ []))
    ∷ split 9 "a\"b" (refused 22 1)
    ∷ split 10 "\"a\"b" (refused 22 3)
    ∷ split 11 "\\x41\\102\\u00e9" (accepted ((0x41 ∷ 0x42 ∷ 0xC3 ∷ 0xA9 ∷ []) ∷ []))
    ∷ split 12 "\\400" (refused 25 0)
    ∷ split 13 "\\x4" (refused 24 0)
    ∷ span 14 "2min 200ms" (accepted 120200000)
    ∷ span 15 "18446744073710" (refused 32 0)
    ∷ span 15 "18446744073709" (accepted 18446744073709000000)
    ∷ span 16 "5 20" (refused 31 0)
    ∷ []

-- each row holds
abbrev pub BenchHolds : Type 0
BenchHolds = All RowHolds bench_rows
