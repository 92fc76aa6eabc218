-- The loops over the entries of a section and over the sections: what is still to be written stands behind what was.
use mathlib.Core.Path.{◌≡◌, refl, sym, ap, subst, ◌∙◌}
use Prim.Native.Nat.{ℕ, suc, ◌+◌, ◌-◌, ◌*◌, ◌≤◌, ◌<◌}
use native.Mathlib.Omega.{arith}
use mathlib.Core.List.{List, [], ◌∷◌, ◌++◌, append_assoc, append-nil}
use lib.ListN.{length, drop, get_or, length-append}
use Rattle.lines.specs.Bytes.{Bytes}
use Rattle.lines.specs.Lines.{written}
use Rattle.lines.specs.Buffers.{Puts}
use Rattle.lines.proofs.Whole.{written_append}
use Rattle.lines.proofs.Putting.{puts_nothing, puts_then, puts_length}
use Rattle.table.specs.Tables.{Entry}
use Rattle.lookup.specs.Decoding.{Lent}
use Rattle.lookup.specs.Steps.{entry_of}
use Rattle.std.specs.Prelude.{Option, None, Some}
use Rattle.normal_text.specs.Sections.{Pair, pair_of, Section, of_section, sections_from}
use Rattle.normal_text.specs.NormalText.{header_line, entry_line, entry_lines, normal_lines, normal_text}
use Rattle.normal_text.specs.Steps.{name_at, names_at, entries_said, LeadsTo, Linked, with_lf, entries_text}
use Rattle.normal_text.proofs.Listed.{all_listed, here, none_left}
use Rattle.normal_text.proofs.LinkLaws.{of_own}

-- ---- texts

-- one line more in front
line_first : (l : Bytes) (ls : List Bytes) → written (l ∷ ls) ≡ with_lf l ++ written ls
unfolding written
line_first l ls = sym (append_assoc l (0x0A ∷ []) (written ls))

-- the text of entries of which this is the first
entries_first : (p : Pair) (ps : List Pair) → written (entry_lines (p ∷ ps)) ≡ with_lf (entry_line p) ++ written (entry_lines ps)
unfolding entry_lines
entries_first p ps = line_first (entry_line p) (entry_lines ps)

entries_none : written (entry_lines []) ≡ []
unfolding entry_lines written
entries_none = refl

-- the normal text of sections of which this is the first
section_first : (s : Section Pair) (ss : List (Section Pair))
    → normal_text (s ∷ ss) ≡ with_lf (header_line s.name) ++ (written (entry_lines s.entries) ++ normal_text ss)
unfolding normal_text normal_lines
section_first s ss =
    line_first (header_line s.name) (entry_lines s.entries ++ normal_lines ss)
    ∙ ap (λ (l : Bytes). with_lf (header_line s.name) ++ l) (written_append (entry_lines s.entries) (normal_lines ss))

sections_none : normal_text [] ≡ []
unfolding normal_text normal_lines written
sections_none = refl

-- ---- what a loop has put: its bytes are those so far, and then those still to come
pub record Putting (all ahead : Bytes) (d : Bytes) (at : ℕ) (end : ℕ) (d' : Bytes) : Type 0 where
  pub done : Bytes
  pub so_far : all ≡ done ++ ahead
  pub puts : Puts d at done end d'
  pub fits : at + length all ≤ length d

pub putting_start : (all d : Bytes) (at : ℕ) → at + length all ≤ length d → Putting all all d at at d
putting_start all d at h = record { done = []; so_far = refl; puts = puts_nothing d at; fits = h }

module _ {all ahead d : Bytes} {at end : ℕ} {d' : Bytes} (p : Putting all ahead d at end d') where
  putting_lengths : length all ≡ length p.done + length ahead
  putting_lengths = ap length p.so_far ∙ length-append p.done ahead

  pub putting_length : length d' ≡ length d
  putting_length = puts_length (omega (arith, p.fits, putting_lengths)) p.puts

  -- what is still to come fits
  pub putting_fits : end + length ahead ≤ length d'
  putting_fits = omega (arith, putting_length, p.puts.behind, p.fits, putting_lengths)

  pub putting_more : (part rest : Bytes) (end' : ℕ) (d'' : Bytes) → ahead ≡ part ++ rest → Puts d' end part end' d'' → Putting all rest d at end' d''
  putting_more part rest end' d'' e q = record {
    done = p.done ++ part;
    so_far = p.so_far ∙ ap (λ (l : Bytes). p.done ++ l) e ∙ sym (append_assoc p.done part rest);
    puts = puts_then (omega (arith, p.fits, putting_lengths)) p.puts q;
    fits = p.fits;
  }

  pub putting_end : ahead ≡ [] → Puts d at all end d'
  putting_end e = rw (p.so_far, e, append-nil p.done) p.puts

-- ---- the entries of a section

-- what is left of a section's entries, by the index of the next one
abbrev pub left_from : (count : ℕ) → Option ℕ → ℕ
left_from count None = 0
left_from count (Some i) = count - i

module _ (b : Lent) (j : ℕ) where
  abbrev es : List Entry
  es = entries_said b

  abbrev said : ℕ → Entry
  said i = entry_of b.text b.entry_numbers (5 * i)

  -- the entries of the section from `from` on are still to come, and `next` says the first of them
  pub record EntriesPut (d : Bytes) (at : ℕ) (next : Option ℕ) (end : ℕ) (d' : Bytes) : Type 0 where
    pub from : ℕ
    pub leads : LeadsTo es j from next
    pub putting : Putting (entries_text j es) (entries_text j (drop from es)) d at end d'

  -- where it says one
  pub at_some : {d : Bytes} {at : ℕ} {next : Option ℕ} {i end : ℕ} {d' : Bytes} → next ≡ Some i → EntriesPut d at next end d' → EntriesPut d at (Some i) end d'
  at_some {d} {at} {next} {i} {end} {d'} q p = subst (λ (o : Option ℕ). EntriesPut d at o end d') q p

  pub entries_start : (firsts nexts : List (Option ℕ)) (linked : Linked es 0 firsts nexts) (d : Bytes) (at : ℕ) → j < length firsts → at + length (entries_text j es) ≤ length d
      → EntriesPut d at (get_or firsts j None) at d
  entries_start firsts nexts linked d at h f = record { from = 0; leads = linked.first j h; putting = putting_start (entries_text j es) d at f }

  module _ (d : Bytes) (at i end : ℕ) (d' : Bytes) (p : EntriesPut d at (Some i) end d') where
    -- it is an entry
    pub entry-there : i < b.entry_count
    entry-there = omega (arith, p.leads.there, all_listed said b.entry_count)

    entry_here : drop i es ≡ said i ∷ drop (suc i) es
    entry_here = here said b.entry_count i entry-there

    own : (said i).section ≡ j
    own = p.leads.own (said i) (drop (suc i) es) entry_here

    -- the entry's line is next
    pub entry_next : entries_text j (drop p.from es) ≡ with_lf (entry_line (pair_of (said i))) ++ entries_text j (drop (suc i) es)
    entry_next =
        ap (λ (l : List Pair). written (entry_lines l))
        (p.leads.passed ∙ ap (of_section pair_of j) entry_here ∙ of_own j (said i) (drop (suc i) es) own)
        ∙ entries_first (pair_of (said i)) (of_section pair_of j (drop (suc i) es))

    pub entry-fits : end + length (with_lf (entry_line (pair_of (said i)))) ≤ length d'
    entry-fits =
        omega (
          arith,
          putting_fits p.putting,
          ap length entry_next,
          length-append (with_lf (entry_line (pair_of (said i)))) (entries_text j (drop (suc i) es)),
        )

    -- fewer are left then
    fewer : (o : Option ℕ) → LeadsTo es j (suc i) o → left_from b.entry_count o < b.entry_count - i
    fewer None h = omega (arith, entry-there)
    fewer (Some n) h = omega (arith, entry-there, h.later)

    module _ (firsts nexts : List (Option ℕ)) (linked : Linked es 0 firsts nexts) where
      next_leads : LeadsTo es j (suc i) (get_or nexts i None)
      next_leads = rw own at (linked.next i (omega arith) (said i) (drop (suc i) es) entry_here)

      pub entries_fewer : left_from b.entry_count (get_or nexts i None) < b.entry_count - i
      entries_fewer = fewer (get_or nexts i None) next_leads

      pub entries_more : (end' : ℕ) (d'' : Bytes) → Puts d' end (with_lf (entry_line (pair_of (said i)))) end' d'' → EntriesPut d at (get_or nexts i None) end' d''
      entries_more end' d'' q = record {
        from = suc i;
        leads = next_leads;
        putting = putting_more p.putting (with_lf (entry_line (pair_of (said i)))) (entries_text j (drop (suc i) es)) end' d'' entry_next q;
      }

  pub entries_end : (d : Bytes) (at end : ℕ) (d' : Bytes) → EntriesPut d at None end d' → Puts d at (entries_text j es) end d'
  entries_end d at end d' p =
      putting_end p.putting (ap (λ (l : List Pair). written (entry_lines l)) p.leads ∙ entries_none)

-- ---- the sections

module _ (text : Bytes) (ns : List ℕ) (m : ℕ) (es : List Entry) where
  -- those from j on
  abbrev ahead : ℕ → List (Section Pair)
  ahead j = sections_from pair_of j (drop j (names_at text ns m)) es

  pub record SectionsPut (d : Bytes) (j end : ℕ) (d' : Bytes) : Type 0 where
    pub putting : Putting (normal_text (sections_from pair_of 0 (names_at text ns m) es)) (normal_text (ahead j)) d 0 end d'

  module _ (d : Bytes) (j end : ℕ) (d' : Bytes) (p : SectionsPut d j end d') where
    module _ (h : j < m) where
      abbrev header_text : Bytes
      header_text = with_lf (header_line (name_at text ns (2 * j)))

      section_next : normal_text (ahead j) ≡ header_text ++ (entries_text j es ++ normal_text (ahead (suc j)))
      unfolding sections_from
      section_next =
          ap (λ (l : List Bytes). normal_text (sections_from pair_of j l es)) (here (λ n. name_at text ns (2 * n)) m j h)
          ∙ section_first (record { name = name_at text ns (2 * j); entries = of_section pair_of j es }) (ahead (suc j))

      pub header_fits : end + length header_text ≤ length d'
      header_fits =
          omega (arith, putting_fits p.putting, ap length section_next, length-append header_text (entries_text j es ++ normal_text (ahead (suc j))))

      module _ (end' : ℕ) (d'' : Bytes) (q : Puts d' end header_text end' d'') where
        header_done : Putting (normal_text (sections_from pair_of 0 (names_at text ns m) es)) (entries_text j es ++ normal_text (ahead (suc j))) d 0 end' d''
        header_done = putting_more p.putting header_text (entries_text j es ++ normal_text (ahead (suc j))) end' d'' section_next q

        pub entries_fit : end' + length (entries_text j es) ≤ length d''
        entries_fit = omega (arith, putting_fits header_done, length-append (entries_text j es) (normal_text (ahead (suc j))))

        pub sections_more : (end'' : ℕ) (d''' : Bytes) → Puts d'' end' (entries_text j es) end'' d''' → SectionsPut d (j + 1) end'' d'''
        sections_more end'' d''' r =
            let z : suc j ≡ j + 1 = omega arith in
            subst (λ (i : ℕ). SectionsPut d i end'' d''') z
            (record { putting = putting_more header_done (entries_text j es) (normal_text (ahead (suc j))) end'' d''' refl r })

    pub sections_end : m ≤ j → Puts d 0 (normal_text (sections_from pair_of 0 (names_at text ns m) es)) end d'
    unfolding sections_from
    sections_end h =
        putting_end p.putting
        (ap (λ (l : List Bytes). normal_text (sections_from pair_of j l es)) (none_left (λ n. name_at text ns (2 * n)) m j h) ∙ sections_none)
