-- There is a table exactly where no record among the counts is faulty and no count passes its buffer.
use mathlib.Core.Path.{◌≡◌, refl, sym, ◌∙◌}
use Prim.Native.Nat.{ℕ, zero, suc, ◌+◌, ◌*◌, ◌≤◌, ◌<◌}
use native.Mathlib.Omega.{arith}
use mathlib.Core.Bool.{Bool, true, true≢false}
use mathlib.Core.Option.{some}
use mathlib.Core.List.{List}
use lib.ListN.{length, drop, get_or}
use borrow.Author.Tests.{le-leb, lt-ltb, leb-true}
use Rattle.lines.proofs.Bools.{both, by_cases}
use Rattle.lookup.specs.Decoding.{inside, names_in, entries_in, Lent, Decoded, table_in}
use Rattle.lookup.specs.Steps.{there, good_entry, good_section, good_record, SectionsGood, EntriesGood}
use Rattle.lookup.specs.Laws.{Sound, TableMeans, TableCounts}
use Rattle.lookup.proofs.Walking.{ByRecords, sections_by_records, entries_by_records}
use Rattle.lookup.proofs.Decoded.{which_there, table_halves, name_facts, names_count, entries_count, entry_of_lem, good_parts, good_of}
use Rattle.lookup.proofs.Calls.{halves}

-- ---- a table that is there

module _ (b : Lent) (t : Decoded) (e : table_in b ≡ some t) where
  -- the last record among the counts is there, so all are
  two_each : (m : ℕ) → b.section_count ≡ m → 2 * m ≤ length b.section_numbers
  two_each zero q = omega arith
  two_each (suc m) q =
      omega (arith, (name_facts b.section_count b.section_numbers b.text t.names (table_halves b t e).names m (omega arith)).record_there)

  five_each : (k : ℕ) → b.entry_count ≡ k → 5 * k ≤ length b.entry_numbers
  five_each zero q = omega arith
  five_each (suc k) q = omega (arith, (entry_of_lem b t e k (omega arith)).record_there)

  table_sound : Sound b
  table_sound = record {
    sections_there = two_each b.section_count refl;
    entries_there = five_each b.entry_count refl;
    names = λ j h. (name_facts b.section_count b.section_numbers b.text t.names (table_halves b t e).names j h).name_inside;
    sections = λ i h. (good_of b t e i h).section;
    keys = λ i h. (good_of b t e i h).key;
    values = λ i h. (good_of b t e i h).value;
  }

-- ---- records that are all good

-- so many records from an index on are there and good
abbrev Run : (ns : List ℕ) (w : ℕ) (good : ℕ → Bool) (m at : ℕ) → Type 0
Run ns w good zero at = Unit {0}
Run ns w good (suc m) at = (at + w ≤ length ns) × (good at ≡ true) × Run ns w good m (at + w)

run-there : (m at : ℕ) (ns : List ℕ) (w : ℕ) (f : ℕ → List ℕ → Bool) (good : ℕ → Bool) → ByRecords ns w f good → Run ns w good m at → f m (drop at ns) ≡ true
run-there zero at ns w f good r h = r.nothing (drop at ns)
run-there (suc m) at ns w f good r h =
    r.more m at h.0 ∙ both (good at) (f m (drop (at + w) ns)) h.1 (run-there m (at + w) ns w f good r h.2)

-- records that are there and good, each w numbers behind the one before, where the record i starts at the index `start i`
run-all : (m j : ℕ) (ns : List ℕ) (w : ℕ) (good : ℕ → Bool) (start : ℕ → ℕ) → ((i : ℕ) → start (suc i) ≡ start i + w)
    → ((i : ℕ) → i < j + m → (start i + w ≤ length ns) × (good (start i) ≡ true)) → Run ns w good m (start j)
run-all zero j ns w good start next h = tt
run-all (suc m) j ns w good start next h = (
  (h j (omega arith)).0,
  (h j (omega arith)).1,
  rw (← next j) (run-all m (suc j) ns w good start next (λ i l. h i (omega arith))),
)

module _ (b : Lent) (s : Sound b) where
  names-there : there (names_in b.text b.section_count b.section_numbers) ≡ true
  names-there =
      run-there b.section_count 0 b.section_numbers 2 _ _ (sections_by_records b.text b.section_numbers)
      (run-all b.section_count 0 b.section_numbers 2 (λ at. inside b.text (get_or b.section_numbers at 0) (get_or b.section_numbers (at + 1) 0))
      (λ i. 2 * i) (λ i. omega arith)
      (λ i h. (omega (arith, s.sections_there), le-leb _ _ (s.names i (omega arith)))))

  entries_there : there (entries_in b.text b.section_count b.entry_count b.entry_numbers) ≡ true
  entries_there =
      run-there b.entry_count 0 b.entry_numbers 5 _ _ (entries_by_records b.text b.section_count b.entry_numbers)
      (run-all b.entry_count 0 b.entry_numbers 5 (good_entry b.text b.section_count b.entry_numbers)
      (λ i. 5 * i) (λ i. omega arith)
      (λ i h. (omega (arith, s.entries_there), good i (omega arith))))
    where
      good : (i : ℕ) → i < b.entry_count → good_entry b.text b.section_count b.entry_numbers (5 * i) ≡ true
      good i h = rw (lt-ltb _ _ (s.sections i h), le-leb _ _ (s.keys i h), le-leb _ _ (s.values i h))

pub table_means : TableMeans
table_means b = (
  λ t e. table_sound b t e,
  λ s. which_there (table_in b) (halves b ∙ both _ _ (names-there b s) (entries_there b s)),
)

-- what the code tests: the records of both kinds
module _ (b : Lent) where
  pub good_sound : SectionsGood b → EntriesGood b → Sound b
  unfolding good_section good_record
  good_sound s e = record {
    sections_there = s.0;
    entries_there = e.0;
    names = λ j h. leb-true _ _ (s.1 j h);
    sections = λ i h. (good_parts b.text b.section_count b.entry_numbers (5 * i) (e.1 i h)).section;
    keys = λ i h. (good_parts b.text b.section_count b.entry_numbers (5 * i) (e.1 i h)).key;
    values = λ i h. (good_parts b.text b.section_count b.entry_numbers (5 * i) (e.1 i h)).value;
  }

  pub sound_sections : Sound b → SectionsGood b
  unfolding good_section
  sound_sections s = (s.sections_there, λ j h. le-leb _ _ (s.names j h))

  pub sound_entries : Sound b → EntriesGood b
  unfolding good_record
  sound_entries s = (s.entries_there, λ i h. rw (lt-ltb _ _ (s.sections i h), le-leb _ _ (s.keys i h), le-leb _ _ (s.values i h)))

  -- so the tests say whether there is a table
  pub holds : (r : Bool) → (r ≡ true → Sound b) → (Sound b → r ≡ true) → r ≡ there (table_in b)
  holds r sound full =
      by_cases r
      (λ q. q ∙ sym (halves b ∙ both _ _ (names-there b (sound q)) (entries_there b (sound q))))
      (λ q. by_cases (there (table_in b))
      (λ t. let w = which_there (table_in b) t in absurd (true≢false (sym (full (table_sound b w.0 w.1)) ∙ q)))
      (λ t. q ∙ sym t))

pub table_counts : TableCounts
table_counts b t e =
    let h = table_halves b t e in (
      names_count b.section_count b.section_numbers b.text t.names h.names,
      entries_count b.entry_count b.entry_numbers b.text b.section_count t.entries h.entries,
    )
