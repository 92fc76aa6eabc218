-- The links, built from the last entry to the first: each step links one entry more, and what was linked stays.
use mathlib.Core.Path.{◌≡◌, refl, sym, ap, ◌∙◌, subst}
use Prim.Native.Nat.{ℕ, zero, suc, ◌-◌, ◌*◌, ◌≤◌, ◌<◌}
use native.Mathlib.Omega.{arith}
use mathlib.Core.Bool.{false}
use mathlib.Core.List.{List, [], ◌∷◌}
use lib.ListN.{length, drop, get_or, set, replicate, length-set}
use lib.Seq.{get_or-set_same, get_or-set_other}
use lib.Dec.{eqb}
use borrow.Author.Tests.{eqb-true, eq-eqb}
use Rattle.lines.proofs.Bools.{by_cases, impossible}
use Rattle.table.specs.Tables.{Entry}
use Rattle.lookup.specs.Decoding.{Lent}
use Rattle.lookup.specs.Laws.{Sound}
use Rattle.lookup.specs.Steps.{entry_of}
use Rattle.std.specs.Prelude.{Option, None, Some}
use Rattle.normal_text.specs.Sections.{pair_of, of_section}
use Rattle.normal_text.specs.Steps.{entries_said, Leads, LeadsTo, Linked}
use Rattle.normal_text.proofs.Listed.{all_listed, here, none_left}

-- ---- the entries of a section

-- an entry of the section is the first of them
pub of_own : (j : ℕ) (e : Entry) (es : List Entry) → e.section ≡ j → of_section pair_of j (e ∷ es) ≡ pair_of e ∷ of_section pair_of j es
unfolding of_section
of_own j e es q = rw (eq-eqb e.section j q)

-- an entry of another section is none of them
pub of_other : (j : ℕ) (e : Entry) (es : List Entry) → eqb e.section j ≡ false → of_section pair_of j (e ∷ es) ≡ of_section pair_of j es
unfolding of_section
of_other j e es q = rw q

pub of_none : (j : ℕ) → of_section pair_of j [] ≡ []
unfolding of_section
of_none j = refl

-- no entry is there
nothing_here : {X : Type 0} {e : Entry} {rest es : List Entry} → es ≡ [] → es ≡ e ∷ rest → X
nothing_here {X} {e} {rest} p q =
    let n : 0 ≡ suc (length rest) = ap length (sym p ∙ q) in
    absurd (omega (arith, n))

-- the first of a list that begins so
same_first : (e d : Entry) (es ds : List Entry) → e ∷ es ≡ d ∷ ds → e ≡ d
same_first e d es ds q = cc q

-- ---- the loop

-- the links where each is none
all_none : (m j : ℕ) → get_or (replicate {A = Option ℕ} m None) j None ≡ None
all_none zero j = refl
all_none (suc m) zero = refl
all_none (suc m) (suc j) = all_none m j

module _ (b : Lent) where
  abbrev es : List Entry
  es = entries_said b

  abbrev said : ℕ → Entry
  said i = entry_of b.text b.entry_numbers (5 * i)

  -- from the entry i on
  pub record Linking (i : ℕ) (firsts nexts : List (Option ℕ)) : Type 0 where
    pub left : i ≤ b.entry_count
    pub first_count : length firsts ≡ 64
    pub next_count : length nexts ≡ 512
    pub linked : Linked es i firsts nexts

  -- nothing is linked yet
  pub link_start : Linking b.entry_count (replicate 64 None) (replicate 512 None)
  link_start = record {
    left = omega arith;
    first_count = refl;
    next_count = refl;
    linked = record {
      first = λ j h. rw (all_none 64 j) (ap (of_section pair_of j) (none_left said b.entry_count b.entry_count (omega arith)) ∙ of_none j);
      next = λ n h e rest q. nothing_here (none_left said b.entry_count n h) q;
    };
  }

  module _ (s : Sound b) (few : b.section_count ≤ 64) (many : b.entry_count ≤ 512) (i : ℕ) (firsts nexts : List (Option ℕ)) (l : Linking (suc i) firsts nexts) where
    -- the section of the entry that is linked now
    abbrev section : ℕ
    section = get_or b.entry_numbers (5 * i) 0

    pub section_below : section < 64
    section_below = omega (arith, s.sections i (omega (arith, l.left)))

    abbrev firsts' : List (Option ℕ)
    firsts' = set firsts section (Some i)

    abbrev nexts' : List (Option ℕ)
    nexts' = set nexts i (get_or firsts section None)

    entry_here : drop i es ≡ said i ∷ drop (suc i) es
    entry_here = here said b.entry_count i l.left

    -- its own section begins with it now
    first_own : Leads es section i i
    first_own = record {
      later = omega arith;
      there = omega (arith, l.left, all_listed said b.entry_count);
      passed = refl;
      own = λ e rest q. ap (λ (d : Entry). d.section) (sym (same_first (said i) e (drop (suc i) es) rest (sym entry_here ∙ q)));
    }

    -- the others begin where they did
    further : (j : ℕ) → eqb section j ≡ false → (o : Option ℕ) → LeadsTo es j (suc i) o → LeadsTo es j i o
    further j q None h = ap (of_section pair_of j) entry_here ∙ of_other j (said i) (drop (suc i) es) q ∙ h
    further j q (Some at) h = record {
      later = omega (arith, h.later);
      there = h.there;
      passed = ap (of_section pair_of j) entry_here ∙ of_other j (said i) (drop (suc i) es) q ∙ h.passed;
      own = h.own;
    }

    first_more : (j : ℕ) → j < length firsts' → LeadsTo es j i (get_or firsts' j None)
    first_more j h =
        by_cases (eqb section j)
        (λ q. let z : section ≡ j = eqb-true section j q in
        let g : get_or firsts' j None ≡ Some i = rw (← z) (get_or-set_same firsts section (Some i) None (omega (arith, section_below, l.first_count))) in
        rw (g, ← z) first_own)
        (λ q. let g : get_or firsts' j None ≡ get_or firsts j None = get_or-set_other firsts section j (Some i) None (λ z. impossible (sym q ∙ eq-eqb section j (sym z))) in
        rw g (further j q (get_or firsts j None) (l.linked.first j (omega (arith, length-set firsts section (Some i))))))

    next_more : (a : ℕ) → i ≤ a → (e : Entry) (rest : List Entry) → drop a es ≡ e ∷ rest → LeadsTo es e.section (suc a) (get_or nexts' a None)
    next_more a h e rest q =
        by_cases (eqb a i)
        (λ y. let z : a ≡ i = eqb-true a i y in
        let d : said i ≡ e = same_first (said i) e (drop (suc i) es) rest (sym entry_here ∙ ap (λ (x : ℕ). drop x es) (sym z) ∙ q) in
        let g : get_or nexts' a None ≡ get_or firsts section None = rw z (get_or-set_same nexts i (get_or firsts section None) None (omega (arith, l.left, l.next_count))) in
        rw (g, ← d, z) (l.linked.first section (omega (arith, section_below, l.first_count))))
        (λ y. let z : (a ≡ i) → ⊥ = λ w. impossible (sym y ∙ eq-eqb a i w) in
        let g : get_or nexts' a None ≡ get_or nexts a None = get_or-set_other nexts i a (get_or firsts section None) None z in
        rw g (l.linked.next a (omega (arith, h, z)) e rest q))

    -- one entry more is linked
    pub link_more : Linking i firsts' nexts'
    link_more = record {
      left = omega (arith, l.left);
      first_count = length-set firsts section (Some i) ∙ l.first_count;
      next_count = length-set nexts i (get_or firsts section None) ∙ l.next_count;
      linked = record { first = first_more; next = next_more };
    }

  -- the same, as the loop counts
  pub link_step : Sound b → b.section_count ≤ 64 → b.entry_count ≤ 512 → (i : ℕ) (firsts nexts : List (Option ℕ)) → Linking i firsts nexts → 0 < i
      → Linking (i - 1) (set firsts (get_or b.entry_numbers (5 * (i - 1)) 0) (Some (i - 1))) (set nexts (i - 1) (get_or firsts (get_or b.entry_numbers (5 * (i - 1)) 0) None))
  link_step s few many i firsts nexts l h =
      let z : i ≡ suc (i - 1) = omega arith in
      link_more s few many (i - 1) firsts nexts (subst (λ (x : ℕ). Linking x firsts nexts) z l)
