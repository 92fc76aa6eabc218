-- The entries of a table by their sections: sections that were laid out one after another come back, and what holds of the
-- names and the entries of a table holds of its sections. No entry is taken twice.
use mathlib.Core.Path.{◌≡◌, refl, ap, ap₂, ◌∙◌}
use Prim.Native.Nat.{ℕ, suc, ◌+◌, ◌≤◌, ◌<◌}
use native.Mathlib.Omega.{arith}
use mathlib.Core.Bool.{false}
use mathlib.Core.List.{List, [], ◌∷◌, ◌++◌, append-nil, append_assoc}
use lib.ListN.{length}
use lib.Dec.{eqb}
use borrow.Author.Tests.{eqb-true, eq-eqb, ne_eqb}
use Rattle.lines.specs.Bytes.{Bytes}
use Rattle.lines.specs.Laws.{All}
use Rattle.lines.proofs.Bools.{by_cases}
use Rattle.table.specs.Tables.{Entry, entry_in}
use Rattle.table.proofs.TableLaws.{all_weaker}
use Rattle.normal_text.specs.Sections.{Pair, pair_of, Section, of_section, sections_from}
use Rattle.normal_text.proofs.Lists.{sum, all_join}
use Rattle.normal_text.proofs.PrintedLines.{NameFits, PairFits}
use Rattle.normal_text.proofs.LinesBack.{SectionFits, names_of, entries_in, entries_from}

-- ---- the entries of one section

-- an entry of another section
abbrev Other : ℕ → Entry → Type 0
Other i e = eqb e.section i ≡ false

-- of one before it
abbrev Before : ℕ → Entry → Type 0
Before i e = e.section < i

of_append : (i : ℕ) (a b : List Entry) → of_section pair_of i (a ++ b) ≡ of_section pair_of i a ++ of_section pair_of i b
unfolding of_section
of_append i [] b = refl
of_append i (e ∷ a) b = by_cases (eqb e.section i) (λ y. rw (y, of_append i a b)) (λ y. rw (y, of_append i a b))

of_others : (i : ℕ) (es : List Entry) → All (Other i) es → of_section pair_of i es ≡ []
unfolding of_section
of_others i [] h = refl
of_others i (e ∷ es) h = rw h.0 (of_others i es h.1)

of_own : (i : ℕ) (ps : List Pair) → of_section pair_of i (entries_in i ps) ≡ ps
unfolding of_section
of_own i [] = refl
of_own i (p ∷ ps) = rw (eq-eqb i i refl) (ap (λ (r : List Pair). p ∷ r) (of_own i ps))

-- ---- sections that were laid out

each_in : (P : Entry → Type 0) (i : ℕ) → ((k v : Bytes) → P (entry_in i k v)) → (ps : List Pair) → All P (entries_in i ps)
each_in P i h [] = tt
each_in P i h (p ∷ ps) = (h p.key p.value, each_in P i h ps)

later_are_others : (ss : List (Section Pair)) (i j : ℕ) → i < j → All (Other i) (entries_from j ss)
later_are_others [] i j h = tt
later_are_others (s ∷ ss) i j h =
    all_join (Other i) (entries_in j s.entries) (entries_from (suc j) ss)
    (each_in (Other i) j (λ k v. ne_eqb j i (λ e. omega arith)) s.entries)
    (later_are_others ss i (suc j) (omega arith))

-- its own entries are found among all
of_laid : (s : Section Pair) (ss : List (Section Pair)) (i : ℕ) (front : List Entry) → All (Before i) front
    → of_section pair_of i (front ++ entries_from i (s ∷ ss)) ≡ s.entries
of_laid s ss i front h =
    let early : of_section pair_of i front ≡ [] =
    of_others i front (all_weaker (Before i) (Other i) (λ e b. ne_eqb e.section i (λ q. omega arith)) front h) in
    let late : of_section pair_of i (entries_from (suc i) ss) ≡ [] = of_others i (entries_from (suc i) ss) (later_are_others ss i (suc i) (omega arith)) in
    of_append i front (entries_from i (s ∷ ss))
    ∙ rw (early, of_append i (entries_in i s.entries) (entries_from (suc i) ss), of_own i s.entries, late) (append-nil s.entries)

sections_laid : (ss : List (Section Pair)) (i : ℕ) (front : List Entry) → All (Before i) front
    → sections_from pair_of i (names_of ss) (front ++ entries_from i ss) ≡ ss
unfolding sections_from
sections_laid [] i front h = refl
sections_laid (s ∷ ss) i front h =
    let own : List Entry = entries_in i s.entries in
    let more : All (Before (suc i)) (front ++ own) =
    all_join (Before (suc i)) front own
    (all_weaker (Before i) (Before (suc i)) (λ e b. omega arith) front h)
    (each_in (Before (suc i)) i (λ k v. omega arith) s.entries) in
    ap₂ (λ (q : List Pair) (r : List (Section Pair)). record { name = s.name; entries = q } ∷ r)
    (of_laid s ss i front h)
    (rw (← append_assoc front own (entries_from (suc i) ss)) (sections_laid ss (suc i) (front ++ own) more))

pub sections_back : (ss : List (Section Pair)) → sections_from pair_of 0 (names_of ss) (entries_from 0 ss) ≡ ss
sections_back ss = sections_laid ss 0 [] tt

-- ---- sections of names and entries

of_all : (P : Pair → Type 0) (i : ℕ) (es : List Entry) → All (λ e. P (pair_of e)) es → All P (of_section pair_of i es)
unfolding of_section
of_all P i [] h = tt
of_all P i (e ∷ es) h = by_cases (eqb e.section i) (λ y. rw y (h.0, of_all P i es h.1)) (λ y. rw y (of_all P i es h.1))

pub sections_fit : (ns : List Bytes) (i : ℕ) (es : List Entry) → All NameFits ns → All (λ e. PairFits (pair_of e)) es
    → All SectionFits (sections_from pair_of i ns es)
unfolding sections_from
sections_fit [] i es h k = tt
sections_fit (x ∷ ns) i es h k = (record { name = h.0; pairs = of_all PairFits i es k }, sections_fit ns (suc i) es h.1 k)

pub sections_names : (ns : List Bytes) (i : ℕ) (es : List Entry) → names_of (sections_from pair_of i ns es) ≡ ns
unfolding sections_from
sections_names [] i es = refl
sections_names (x ∷ ns) i es = ap (λ (l : List Bytes). x ∷ l) (sections_names ns (suc i) es)

pub sections_count : (ss : List (Section Pair)) → length (names_of ss) ≡ length ss
sections_count [] = refl
sections_count (s ∷ ss) = ap suc (sections_count ss)

-- ---- sums over all pairs

module _ (w : Pair → ℕ) where
  -- over those of all sections
  abbrev pub sum_pairs : List (Section Pair) → ℕ
  sum_pairs ss = sum (λ s. sum w s.entries) ss

  -- without entries there is none
  sum_none : (ns : List Bytes) (i : ℕ) → sum_pairs (sections_from pair_of i ns []) ≡ 0
  unfolding sections_from of_section
  sum_none [] i = refl
  sum_none (x ∷ ns) i = omega (arith, sum_none ns (suc i))

  -- an entry of an earlier section is in none of these
  skipped : (ns : List Bytes) (i : ℕ) (e : Entry) (es : List Entry) → e.section < i
      → sections_from pair_of i ns (e ∷ es) ≡ sections_from pair_of i ns es
  unfolding sections_from of_section
  skipped [] i e es h = refl
  skipped (x ∷ ns) i e es h = rw (ne_eqb e.section i (λ q. omega arith), skipped ns (suc i) e es (omega arith))

  -- an entry is in one section at most
  sum_one : (ns : List Bytes) (i : ℕ) (e : Entry) (es : List Entry)
      → sum_pairs (sections_from pair_of i ns (e ∷ es)) ≤ w (pair_of e) + sum_pairs (sections_from pair_of i ns es)
  unfolding sections_from of_section
  sum_one [] i e es = omega arith
  sum_one (x ∷ ns) i e es =
      by_cases (eqb e.section i)
      (λ y. let z : e.section ≡ i = eqb-true e.section i y in rw (y, skipped ns (suc i) e es (omega arith)) (omega arith))
      (λ y. rw y (omega (arith, sum_one ns (suc i) e es)))

  pub sum_sections : (es : List Entry) (i : ℕ) (ns : List Bytes) → sum_pairs (sections_from pair_of i ns es) ≤ sum (λ e. w (pair_of e)) es
  sum_sections [] i ns = omega (arith, sum_none ns i)
  sum_sections (e ∷ es) i ns = omega (arith, sum_one ns i e es, sum_sections es i ns)
