-- The sections of an accepted file are such that their normal text can be read back, and it has no more bytes than the file
-- counts.
use mathlib.Core.Path.{◌≡◌, refl, ap}
use Prim.Native.Nat.{◌+◌, ◌≤◌}
use native.Mathlib.Omega.{arith}
use mathlib.Core.List.{List, [], ◌∷◌}
use lib.ListN.{length, length-append}
use Rattle.lines.specs.Bytes.{Bytes}
use Rattle.lines.specs.Lines.{written}
use Rattle.lines.specs.Files.{size}
use Rattle.lines.specs.Answers.{accepted}
use Rattle.lines.specs.Laws.{All}
use Rattle.lines.proofs.Whole.{written_append}
use Rattle.table.specs.Tables.{Entry, Table, names, entries, verdict}
use Rattle.table.specs.Laws.{Apart, EntryLegal}
use Rattle.table.proofs.Laws.{tables_fit, names_are_apart, names_are_legal, entries_are_legal}
use Rattle.table.proofs.TableLaws.{GoodName, all_weaker}
use Rattle.normal_text.specs.Sections.{Pair, pair_of, Section, sections_from, sections_of}
use Rattle.normal_text.specs.NormalText.{entry_lines, normal_lines, normal_text}
use Rattle.normal_text.proofs.Lists.{sum, sum_ones, sum_same, all_both}
use Rattle.normal_text.proofs.PrintedLines.{NameFits, PairFits}
use Rattle.normal_text.proofs.LinesBack.{SectionFits, names_of}
use Rattle.normal_text.proofs.Grouping.{sections_fit, sections_names, sections_count, sum_pairs, sum_sections}
use Rattle.normal_text.proofs.Printable.{header_size, entry_size, ShortName, EntryPrints, Printable, verdict_prints}

-- sections whose normal text can be read back
pub record Readable (ss : List (Section Pair)) : Type 0 where
  pub each : All SectionFits ss
  pub apart : Apart [] (names_of ss)
  pub few_sections : length ss ≤ 64
  pub few_pairs : sum (λ s. length s.entries) ss ≤ 512
  pub fits : length (normal_text ss) ≤ 65535

-- ---- the size of the normal text

entries_size : (ps : List Pair) → length (written (entry_lines ps)) ≡ sum entry_size ps
unfolding written entry_lines
entries_size [] = refl
entries_size (p ∷ ps) = simp length-append (omega (arith, entries_size ps))

lines_size : (ss : List (Section Pair)) → length (written (normal_lines ss)) ≡ sum header_size (names_of ss) + sum_pairs entry_size ss
unfolding written normal_lines
lines_size [] = refl
lines_size (s ∷ ss) =
    simp length-append
    (omega (
      arith,
      ap length (written_append (entry_lines s.entries) (normal_lines ss)),
      length-append (written (entry_lines s.entries)) (written (normal_lines ss)),
      entries_size s.entries,
      lines_size ss,
    ))

-- ---- the sections of a file

module _ (f : Bytes) (t : Table) (e : verdict f ≡ accepted t) where
  abbrev ns : List Bytes
  ns = names t.events

  abbrev es : List Entry
  es = entries t.events

  prints : Printable (size f) t
  prints = verdict_prints f t e

  names_fit : All NameFits ns
  names_fit =
      all_weaker (λ x. GoodName x × ShortName x) NameFits (λ x h. record { legal = h.0; short = h.1 }) ns
      (all_both GoodName ShortName ns (names_are_legal f t e) prints.short_names)

  pairs_fit : All (λ d. PairFits (pair_of d)) es
  pairs_fit =
      all_weaker (λ d. EntryLegal d × EntryPrints d) (λ d. PairFits (pair_of d))
      (λ d h. record { key = h.0.key; starts = h.0.starts; ends = h.0.ends; legal = h.1.legal; short = h.1.short }) es
      (all_both EntryLegal EntryPrints es (entries_are_legal f t e) prints.good_entries)

  pub normal_size : length (normal_text (sections_of t)) ≤ size f
  unfolding normal_text sections_of
  normal_size =
      omega (
        arith,
        lines_size (sections_from pair_of 0 ns es),
        ap (sum header_size) (sections_names ns 0 es),
        sum_sections entry_size es 0 ns,
        prints.fits,
      )

  count_pairs : sum (λ s. length s.entries) (sections_from pair_of 0 ns es) ≤ length es
  count_pairs =
      omega (
        arith,
        sum_same (λ (s : Section Pair). sum (λ p. 1) s.entries) (λ s. length s.entries) (λ s. sum_ones s.entries) (sections_from pair_of 0 ns es),
        sum_sections (λ p. 1) es 0 ns,
        sum_ones es,
      )

  pub readable : Readable (sections_of t)
  readable =
      let fit = tables_fit f t e in
      record {
        each = unfold sections_of in sections_fit ns 0 es names_fit pairs_fit;
        apart = unfold sections_of in rw (sections_names ns 0 es) (names_are_apart f t e);
        few_sections =
            unfold sections_of in
            omega (arith, sections_count (sections_from pair_of 0 ns es), ap length (sections_names ns 0 es), fit.0.few_sections);
        few_pairs = unfold sections_of in omega (arith, count_pairs, fit.0.few_entries);
        fits = omega (arith, normal_size, fit.1);
      }
