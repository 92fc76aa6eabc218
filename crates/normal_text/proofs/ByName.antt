-- The entries of a section are those whose section has its name: names are apart, so an index and its name tell the same.
use mathlib.Core.Path.{◌≡◌, refl, sym, ap, ap₂, ◌∙◌}
use Prim.Native.Nat.{ℕ, suc, ◌+◌, ◌<◌}
use native.Mathlib.Omega.{arith}
use mathlib.Core.Bool.{cond}
use mathlib.Core.Option.{some}
use mathlib.Core.List.{List, [], ◌∷◌, ◌++◌, append_assoc}
use lib.ListN.{length, get_or, length-append}
use lib.Seq.{get_or_at}
use lib.Dec.{eqb}
use borrow.Author.Tests.{eqb-true, eq-eqb}
use Rattle.lines.specs.Bytes.{Bytes, equal}
use Rattle.lines.specs.Answers.{accepted}
use Rattle.lines.specs.Laws.{All}
use Rattle.lines.proofs.Bools.{by_cases, is_false, impossible, equal_eq, equal_refl}
use Rattle.table.specs.Tables.{Entry, Table, names, entries, index_of, verdict}
use Rattle.table.specs.Laws.{Apart}
use Rattle.table.proofs.Laws.{names_are_apart, entries_are_inside}
use Rattle.table.proofs.TableLaws.{Inside, index_apart}
use Rattle.normal_text.specs.Sections.{Pair, pair_of, Section, of_section, sections_from, sections_of}

-- the pairs of those entries whose section, by these names, has the name x
abbrev pub under_name : List Bytes → (x : Bytes) → List Entry → List Pair
under_name ns x [] = []
under_name ns x (e ∷ es) = cond (equal (get_or ns e.section []) x) (pair_of e ∷ under_name ns x es) (under_name ns x es)

-- names, each with all that stands under it
abbrev pub sections_named : List Bytes → List Bytes → List Entry → List (Section Pair)
sections_named ns [] es = []
sections_named ns (x ∷ xs) es = record { name = x; entries = under_name ns x es } ∷ sections_named ns xs es

module _ (ns : List Bytes) (apart : Apart [] ns) where
  -- two names are equal only where their indexes are
  same_index : (i j : ℕ) → i < length ns → j < length ns → get_or ns i [] ≡ get_or ns j [] → i ≡ j
  same_index i j hi hj e =
      let q : some (0 + i) ≡ some (0 + j) = sym (index_apart ns [] i apart hi) ∙ ap (λ (x : Bytes). index_of x ns) e ∙ index_apart ns [] j apart hj in
      let r : 0 + i ≡ 0 + j = cc in
      omega arith

  index_or_name : (i j : ℕ) → i < length ns → j < length ns → eqb i j ≡ equal (get_or ns i []) (get_or ns j [])
  index_or_name i j hi hj =
      by_cases (equal (get_or ns i []) (get_or ns j []))
      (λ e. rw e (eq-eqb i j (same_index i j hi hj (equal_eq (get_or ns i []) (get_or ns j []) e))))
      (λ e.
      rw e
      (is_false (eqb i j)
      (λ q. impossible (sym e ∙ ap (λ (k : ℕ). equal (get_or ns i []) (get_or ns k [])) (sym (eqb-true i j q)) ∙ equal_refl (get_or ns i [])))))

  pairs_by_name : (j : ℕ) → j < length ns → (es : List Entry) → All (Inside (length ns)) es
      → of_section pair_of j es ≡ under_name ns (get_or ns j []) es
  unfolding of_section
  pairs_by_name j hj [] h = refl
  pairs_by_name j hj (e ∷ es) h = rw (index_or_name e.section j h.0 hj, pairs_by_name j hj es h.1)

  -- the names from index j on, behind those in front
  named_from : (xs front : List Bytes) (j : ℕ) → length front ≡ j → ns ≡ front ++ xs → (es : List Entry) → All (Inside (length ns)) es
      → sections_from pair_of j xs es ≡ sections_named ns xs es
  unfolding sections_from
  named_from [] front j hj e es h = refl
  named_from (x ∷ xs) front j hj e es h =
      let here : get_or ns j [] ≡ x = ap (λ (l : List Bytes). get_or l j []) e ∙ get_or_at front x xs [] j hj in
      let inside : j < length ns = omega (arith, ap length e, length-append front (x ∷ xs)) in
      ap₂ (λ (q : List Pair) (r : List (Section Pair)). record { name = x; entries = q } ∷ r)
      (pairs_by_name j inside es h ∙ ap (λ (y : Bytes). under_name ns y es) here)
      (named_from xs (front ++ x ∷ []) (suc j) (omega (arith, length-append front (x ∷ []))) (e ∙ sym (append_assoc front (x ∷ []) xs)) es h)

pub sections_named_lem : (f : Bytes) (t : Table) → verdict f ≡ accepted t
    → sections_of t ≡ sections_named (names t.events) (names t.events) (entries t.events)
unfolding sections_of
sections_named_lem f t e =
    named_from (names t.events) (names_are_apart f t e) (names t.events) [] 0 refl refl (entries t.events) (entries_are_inside f t e)
