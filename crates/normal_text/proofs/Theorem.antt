-- Demand 3 over the definitions. The normal text of an accepted file is accepted and holds the same, as its lines, which stand
-- for themselves, bring the same names and entries; so two files with one normal text hold the same.
use mathlib.Core.Path.{◌≡◌, refl, sym, ap, ap₂, ◌∙◌, subst}
use Prim.Native.Nat.{ℕ, ◌≤◌}
use native.Mathlib.Omega.{arith}
use mathlib.Core.Bool.{false}
use mathlib.Core.List.{List, [], ◌∷◌}
use lib.ListN.{length}
use borrow.Author.Tests.{le-ltb}
use Rattle.lines.specs.Bytes.{Bytes}
use Rattle.lines.specs.Lines.{logical, written}
use Rattle.lines.specs.Files.{unterminated, size}
use Rattle.lines.specs.Answers.{Outcome, accepted, refused}
use Rattle.lines.specs.Laws.{All, Legal, Whole, Sound}
use Rattle.lines.proofs.Bools.{clash}
use Rattle.lines.proofs.Totals.{unterminated_more}
use Rattle.lines.proofs.Laws.{sound_is_checked, read_back, written_is_legal}
use Rattle.table.specs.Tables.{Table, empty_table, names, entries, and_then, verdict}
use Rattle.table.specs.Answers.{read_in}
use Rattle.table.proofs.Laws as table
use Rattle.table.proofs.TableLaws.{all_weaker}
use Rattle.normal_text.specs.Sections.{Pair, Section, pair_of, sections_from, sections_of, sections_in}
use Rattle.normal_text.specs.NormalText.{entry_lines, normal_lines, normal_text}
use Rattle.normal_text.specs.Answers.{normal_in}
use Rattle.normal_text.specs.Laws.{SectionsOfTable, TableOfSections, NormalFits, NormalReads, NormalTells, NormalDecided}
use Rattle.normal_text.proofs.Lists.{all_join}
use Rattle.normal_text.proofs.PrintedLines.{PairFits, Stands, stands_legal, stands_whole, header_stands, entry_stands}
use Rattle.normal_text.proofs.LinesBack.{SectionFits, names_of, entries_from, unnumbered, unnumbered_bytes, Brings, brings_sections}
use Rattle.normal_text.proofs.Grouping.{sections_back}
use Rattle.normal_text.proofs.Readable.{Readable, normal_size, readable}

-- ---- what a file holds is what its table holds

pub sections_in_lem : SectionsOfTable
unfolding sections_in and_then
sections_in_lem f t e = rw e

pub table_in_lem : TableOfSections
unfolding sections_in and_then
table_in_lem f ss e = go (verdict f) refl e
  where
    go : (o : Outcome Table) → verdict f ≡ o → and_then o (λ t. accepted (sections_of t)) ≡ accepted ss
        → (t : Table) × (verdict f ≡ accepted t) × (sections_of t ≡ ss)
    go (accepted t) q r = (t, q, cc)
    go (refused n p) q r = clash (cc)

-- ---- the lines of the normal text

pairs_stand : (ps : List Pair) → All PairFits ps → All Stands (entry_lines ps)
unfolding entry_lines
pairs_stand [] h = tt
pairs_stand (p ∷ ps) h = (entry_stands p h.0, pairs_stand ps h.1)

lines_stand : (ss : List (Section Pair)) → All SectionFits ss → All Stands (normal_lines ss)
unfolding normal_lines
lines_stand [] h = tt
lines_stand (s ∷ ss) h = (
  header_stands s.name h.0.name,
  all_join Stands (entry_lines s.entries) (normal_lines ss) (pairs_stand s.entries h.0.pairs) (lines_stand ss h.1),
)

-- each ends in LF
written-ends : (ls : List Bytes) → unterminated (written ls) ≡ false
unfolding written unterminated
written-ends [] = refl
written-ends (l ∷ ls) = unterminated_more l (written ls) ∙ written-ends ls

module _ (ss : List (Section Pair)) (r : Readable ss) where
  stand : All Stands (normal_lines ss)
  stand = lines_stand ss r.each

  normal_sound : Sound (normal_text ss)
  unfolding normal_text size
  normal_sound =
      let w = written_is_legal (normal_lines ss) (all_weaker Stands Legal stands_legal (normal_lines ss) stand) in
      record { short = rw (written-ends (normal_lines ss)) r.fits; characters = w.0; bytes = w.1 }

  -- what they bring to an empty table
  normal_brings : Brings empty_table (normal_lines ss) (names_of ss) (entries_from 0 ss)
  unfolding names entries
  normal_brings = brings_sections ss empty_table r.each r.apart (omega (arith, r.few_sections)) (omega (arith, r.few_pairs))

  normal_verdict : verdict (normal_text ss) ≡ accepted normal_brings.table
  unfolding verdict and_then normal_text
  normal_verdict =
      let whole : All Whole (normal_lines ss) = all_weaker Stands Whole stands_whole (normal_lines ss) stand in
      rw (sound_is_checked (normal_text ss) normal_sound)
      (table.line_numbers_decide_nothing (unnumbered (normal_lines ss)) (logical (normal_text ss))
      (unnumbered_bytes (normal_lines ss) ∙ sym (read_back (normal_lines ss) whole))
      empty_table normal_brings.table normal_brings.runs)

  same_sections : sections_of normal_brings.table ≡ ss
  unfolding sections_of names entries
  same_sections =
      ap₂ (sections_from pair_of 0) normal_brings.names_are normal_brings.entries_are ∙ sections_back ss

  pub normal_holds : sections_in (normal_text ss) ≡ accepted ss
  normal_holds = sections_in_lem (normal_text ss) normal_brings.table normal_verdict ∙ ap accepted same_sections

-- ---- demand 3

pub normal_fits : NormalFits
normal_fits f ss e =
    let h = table_in_lem f ss e in
    (subst (λ (r : List (Section Pair)). length (normal_text r) ≤ size f) h.2 (normal_size f h.0 h.1), (table.tables_fit f h.0 h.1).1)

pub normal_reads : NormalReads
normal_reads f ss e =
    let h = table_in_lem f ss e in
    normal_holds ss (subst Readable h.2 (readable f h.0 h.1))

pub normal_tells : NormalTells
normal_tells f g ss ts d e = (
  λ q. ap normal_text q,
  λ q.
      let r : accepted ss ≡ accepted ts = sym (normal_reads f ss d) ∙ ap sections_in q ∙ normal_reads g ts e in
      cc,
)

-- ---- a call

-- the output buffer alone decides beside the reader
pub space_decides : (a b c d : ℕ) (f : Bytes) → 65535 ≤ d → normal_in a b c d f ≡ read_in a b c f
unfolding normal_in
space_decides a b c d f h = rw (le-ltb d 65535 h)

pub normal_decided : NormalDecided
normal_decided text_size sections_size entries_size out_size f ht hs he ho =
    space_decides text_size sections_size entries_size out_size f ho ∙ table.enough_space_decides text_size sections_size entries_size f ht hs he
