-- Reading the lines of the normal text: they are accepted one after another, and bring the names and the entries of the
-- sections in order. Which numbers the lines have does not count.
use mathlib.Core.Path.{◌≡◌, refl, sym, ap, ◌∙◌, subst}
use Prim.Native.Nat.{ℕ, suc, ◌+◌, ◌≤◌, ◌<◌}
use native.Mathlib.Omega.{arith}
use mathlib.Core.Option.{none, some}
use mathlib.Core.List.{List, [], ◌∷◌, ◌++◌, append-nil, append_assoc}
use lib.ListN.{length, length-append}
use borrow.Author.Tests.{lt-ltb, le-ltb}
use Rattle.lines.specs.Bytes.{Bytes}
use Rattle.lines.specs.Lines.{Line}
use Rattle.lines.specs.Answers.{Outcome, accepted, refused}
use Rattle.lines.specs.Laws.{All, bytes_of}
use Rattle.table.specs.Tables.{Entry, entry_in, new_section, new_entry, Table, names, entries, index_of, with, opened, added, act, step, and_then, run}
use Rattle.table.specs.Laws.{Apart}
use Rattle.table.proofs.Events.{names_section, names-entry, entries_section, entries-entry}
use Rattle.normal_text.specs.Sections.{Pair, Section}
use Rattle.normal_text.specs.NormalText.{header_line, entry_line, entry_lines, normal_lines}
use Rattle.normal_text.proofs.Lists.{sum}
use Rattle.normal_text.proofs.PrintedLines.{NameFits, PairFits, header_kind_lem, entry-kind}

-- ---- sections as a table has them

-- a section whose lines can be read back
pub record SectionFits (s : Section Pair) : Type 0 where
  pub name : NameFits s.name
  pub pairs : All PairFits s.entries

abbrev pub names_of : List (Section Pair) → List Bytes
names_of [] = []
names_of (s ∷ ss) = s.name ∷ names_of ss

-- the entries of the section with index i
abbrev pub entries_in : ℕ → List Pair → List Entry
entries_in i [] = []
entries_in i (p ∷ ps) = entry_in i p.key p.value ∷ entries_in i ps

-- and those of sections the first of which has index i
abbrev pub entries_from : ℕ → List (Section Pair) → List Entry
entries_from i [] = []
entries_from i (s ∷ ss) = entries_in i s.entries ++ entries_from (suc i) ss

length-entries_in : (i : ℕ) (ps : List Pair) → length (entries_in i ps) ≡ length ps
length-entries_in i [] = refl
length-entries_in i (p ∷ ps) = ap suc (length-entries_in i ps)

-- ---- lines without their numbers

abbrev pub unnumbered : List Bytes → List Line
unnumbered [] = []
unnumbered (l ∷ ls) = record { number = 0; bytes = l; end = none } ∷ unnumbered ls

pub unnumbered_bytes : (ls : List Bytes) → bytes_of (unnumbered ls) ≡ ls
unnumbered_bytes [] = refl
unnumbered_bytes (l ∷ ls) = ap (λ (r : List Bytes). l ∷ r) (unnumbered_bytes ls)

-- after the first lines come the others
run_append : (ls ms : List Bytes) (t : Table) → run t (unnumbered (ls ++ ms)) ≡ and_then (run t (unnumbered ls)) (λ u. run u (unnumbered ms))
unfolding run and_then
run_append [] ms t = refl
run_append (l ∷ ls) ms t = go (step t (record { number = 0; bytes = l; end = none })) (run_append ls ms)
  where
    go : (o : Outcome Table) → ((u : Table) → run u (unnumbered (ls ++ ms)) ≡ and_then (run u (unnumbered ls)) (λ v. run v (unnumbered ms)))
        → and_then o (λ u. run u (unnumbered (ls ++ ms))) ≡ and_then (and_then o (λ u. run u (unnumbered ls))) (λ u. run u (unnumbered ms))
    go (accepted u) ih = ih u
    go (refused n p) ih = refl

-- ---- what lines bring

-- the lines are accepted, and bring these names and entries
pub record Brings (t : Table) (ls : List Bytes) (xs : List Bytes) (es : List Entry) : Type 0 where
  pub table : Table
  pub runs : run t (unnumbered ls) ≡ accepted table
  pub names_are : names table.events ≡ names t.events ++ xs
  pub entries_are : entries table.events ≡ entries t.events ++ es

brings_nothing : (t : Table) → Brings t [] [] []
unfolding run
brings_nothing t = record {
  table = t;
  runs = refl;
  names_are = sym (append-nil (names t.events));
  entries_are = sym (append-nil (entries t.events));
}

brings_then : {t : Table} {ls ms xs ys : List Bytes} {es ds : List Entry} → (b : Brings t ls xs es) → Brings b.table ms ys ds
    → Brings t (ls ++ ms) (xs ++ ys) (es ++ ds)
unfolding and_then
brings_then {t} {ls} {ms} {xs} {ys} {es} {ds} b c = record {
  table = c.table;
  runs = run_append ls ms t ∙ rw b.runs c.runs;
  names_are = c.names_are ∙ rw b.names_are (append_assoc (names t.events) xs ys);
  entries_are = c.entries_are ∙ rw b.entries_are (append_assoc (entries t.events) es ds);
}

-- a new header
brings_header : (t : Table) (x : Bytes) → NameFits x → index_of x (names t.events) ≡ none → length (names t.events) < 64
    → Brings t (header_line x ∷ []) (x ∷ []) []
unfolding run and_then step act opened
brings_header t x f e few = record {
  table = with t (new_section x) (length (names t.events));
  runs = rw (le-ltb 4096 (length (header_line x)) f.short, header_kind_lem x f, e, lt-ltb (length (names t.events)) 64 few);
  names_are = names_section t.events x;
  entries_are = entries_section t.events x ∙ sym (append-nil (entries t.events));
}

-- an entry, where a section is open
brings_entry : (t : Table) (p : Pair) (i : ℕ) → PairFits p → t.current ≡ some i → length (entries t.events) < 512
    → Brings t (entry_line p ∷ []) [] (entry_in i p.key p.value ∷ [])
unfolding run and_then step act added
brings_entry t p i f e few = record {
  table = with t (new_entry (entry_in i p.key p.value)) i;
  runs = rw (le-ltb 4096 (length (entry_line p)) f.short, entry-kind p f, e, lt-ltb (length (entries t.events)) 512 few);
  names_are = names-entry t.events (entry_in i p.key p.value) ∙ sym (append-nil (names t.events));
  entries_are = entries-entry t.events (entry_in i p.key p.value);
}

-- ---- the lines of sections

brings_pairs : (ps : List Pair) (t : Table) (i : ℕ) → All PairFits ps → t.current ≡ some i
    → length (entries t.events) + length ps ≤ 512 → Brings t (entry_lines ps) [] (entries_in i ps)
unfolding entry_lines brings_entry
brings_pairs [] t i h e few = brings_nothing t
brings_pairs (p ∷ ps) t i h e few =
    let d : Entry = entry_in i p.key p.value in
    let n : length (entries (with t (new_entry d) i).events) ≡ length (entries t.events) + 1 =
    ap length (entries-entry t.events d) ∙ length-append (entries t.events) (d ∷ []) in
    brings_then (brings_entry t p i h.0 e (omega arith)) (brings_pairs ps (with t (new_entry d) i) i h.1 refl (omega (arith, n)))

brings_section : (s : Section Pair) (t : Table) → SectionFits s → index_of s.name (names t.events) ≡ none
    → length (names t.events) < 64 → length (entries t.events) + length s.entries ≤ 512
    → Brings t (header_line s.name ∷ entry_lines s.entries) (s.name ∷ []) (entries_in (length (names t.events)) s.entries)
unfolding brings_header
brings_section s t f e few many =
    let i : ℕ = length (names t.events) in
    let u : Table = with t (new_section s.name) i in
    brings_then (brings_header t s.name f.name e few)
    (brings_pairs s.entries u i f.pairs refl (omega (arith, ap length (entries_section t.events s.name))))

pub brings_sections : (ss : List (Section Pair)) (t : Table) → All SectionFits ss → Apart (names t.events) (names_of ss)
    → length (names t.events) + length ss ≤ 64 → length (entries t.events) + sum (λ s. length s.entries) ss ≤ 512
    → Brings t (normal_lines ss) (names_of ss) (entries_from (length (names t.events)) ss)
unfolding normal_lines
brings_sections [] t h a few many = brings_nothing t
brings_sections (s ∷ ss) t h a few many =
    let i : ℕ = length (names t.events) in
    let b : Brings t (header_line s.name ∷ entry_lines s.entries) (s.name ∷ []) (entries_in i s.entries) =
    brings_section s t h.0 a.0 (omega arith) (omega arith) in
    let n : length (names b.table.events) ≡ suc i = ap length b.names_are ∙ omega (arith, length-append (names t.events) (s.name ∷ [])) in
    let m : length (entries b.table.events) ≡ length (entries t.events) + length s.entries =
    ap length b.entries_are ∙ omega (arith, length-append (entries t.events) (entries_in i s.entries), length-entries_in i s.entries) in
    let c : Brings b.table (normal_lines ss) (names_of ss) (entries_from (length (names b.table.events)) ss) =
    brings_sections ss b.table h.1 (rw b.names_are a.1) (omega arith) (omega arith) in
    brings_then b (subst (λ (k : ℕ). Brings b.table (normal_lines ss) (names_of ss) (entries_from k ss)) n c)
