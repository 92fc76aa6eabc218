-- What the calls answer, by the tests that the code makes.
use mathlib.Core.Path.{◌≡◌, refl, sym, ap, ◌∙◌, subst}
use Prim.Native.Nat.{ℕ, zero, suc, ◌+◌, ◌-◌, ◌*◌, ◌≤◌, ◌<◌}
use native.Mathlib.Nat.{add-zero}
use native.Mathlib.Omega.{arith}
use mathlib.Core.Bool.{true, false, ◌&&◌}
use mathlib.Core.Option.{Option, none, some}
use Rattle.std.specs.Prelude as prelude
use Rattle.std.specs.Prelude.{None, Some, Result, Ok, Err}
use Rattle.std.specs.Option.{ok_or}
use mathlib.Core.List.{List, [], ◌∷◌}
use lib.ListN.{length, take, drop, get_or}
use lib.Dec.{leb}
use borrow.Author.Tests.{lt-ltb, le-ltb, leb-true, leb-false}
use Rattle.lines.specs.Bytes.{Bytes}
use Rattle.lines.specs.Answers.{Outcome, accepted, refused}
use Rattle.lines.proofs.Bools.{impossible, by_cases}
use Rattle.table.specs.Tables.{Entry}
use Rattle.lookup.specs.Decoding.{part, names_in, entries_in, Lent, Decoded, table_in}
use Rattle.lookup.specs.Questions.{indexes_from, asked, value_at, Part, value_part, on_table, or_missing, index_in, value_in, part_in}
use Rattle.lookup.specs.Answers.{error_means, find_means, part_means, value_means, bytes_or, part_or, HandsBack}
use Rattle.lookup.specs.Laws.{PartOfValue, PartIsValue}
use Rattle.lookup.specs.Steps.{there, matches, IsAsked}
use Rattle.lookup.specs.declared.error.Error.{Error}
use Rattle.lookup.specs.declared.error.Error.TheVariants.{NoEntry, FaultyRecord}
use Rattle.lookup.specs.declared.search.Which.{Which}
use Rattle.lookup.specs.declared.values.Part as declared
use Rattle.lookup.proofs.Searching.{known, finds, lent-part}
use Rattle.lookup.proofs.Decoded.{which_there, there-together, entries_count, table_halves, entry_of_lem, good_of}

-- nothing is there
not_there : {A : Type 0} (o : Option A) → there o ≡ false → o ≡ none
not_there none e = refl
not_there (some x) e = impossible (sym e)

-- ---- the table

module _ (b : Lent) where
  pub halves : there (table_in b)
      ≡ (there (names_in b.text b.section_count b.section_numbers) && there (entries_in b.text b.section_count b.entry_count b.entry_numbers))
  unfolding table_in
  halves = there-together (names_in b.text b.section_count b.section_numbers) (entries_in b.text b.section_count b.entry_count b.entry_numbers)

-- ---- look-up

module _ (b : Lent) (w : Which) (x k : Bytes) where
  pub find_faulty : there (table_in b) ≡ false → error_means FaultyRecord ≡ index_in b w x k
  unfolding index_in on_table
  find_faulty e = rw (not_there (table_in b) e)

  -- by what was found in the table
  answer : (t : Decoded) → table_in b ≡ some t → (r : prelude.Option ℕ) → asked w (indexes_from 0 t.names x k t.entries) ≡ known r
      → find_means (ok_or r NoEntry) ≡ index_in b w x k
  unfolding index_in on_table or_missing
  answer t e None q = rw (e, q)
  answer t e (Some i) q = rw (e, q)

  pub find_found : there (table_in b) ≡ true → (r : prelude.Option ℕ) → IsAsked w b.entry_count (matches b x k) r
      → find_means (ok_or r NoEntry) ≡ index_in b w x k
  find_found e r f = let t = which_there (table_in b) e in answer t.0 t.1 r (finds b x k t.0 t.1 w r f)

-- ---- an entry's value

module _ (b : Lent) (i : ℕ) where
  -- the number of entries is the count
  count : (t : Decoded) → table_in b ≡ some t → length t.entries ≡ b.entry_count
  count t e = entries_count b.entry_count b.entry_numbers b.text b.section_count t.entries (table_halves b t e).entries

  part_faulty : table_in b ≡ none → part_in b i ≡ refused 41 0
  unfolding part_in on_table
  part_faulty e = rw e

  part_missing : (t : Decoded) → table_in b ≡ some t → b.entry_count ≤ i → part_in b i ≡ refused 40 0
  unfolding part_in on_table or_missing
  part_missing t e h = rw (e, le-ltb i b.entry_count h)

  part-there : (t : Decoded) → table_in b ≡ some t → i < b.entry_count → part_in b i ≡ accepted (value_part i b.entry_numbers)
  unfolding part_in on_table or_missing
  part-there t e h = rw (e, lt-ltb i b.entry_count h)

  pub value_faulty : there (table_in b) ≡ false → error_means FaultyRecord ≡ part_in b i
  value_faulty e = sym (part_faulty (not_there (table_in b) e))

  module _ (e : there (table_in b) ≡ true) where
    pub value_missing : b.entry_count ≤ i → error_means NoEntry ≡ part_in b i
    value_missing h = let w = which_there (table_in b) e in sym (part_missing w.0 w.1 h)

    pub value_there : i < b.entry_count → accepted (value_part i b.entry_numbers) ≡ part_in b i
    value_there h = let w = which_there (table_in b) e in sym (part-there w.0 w.1 h)

    -- the record of an entry is there
    pub record_of : i < b.entry_count → 5 * i + 5 ≤ length b.entry_numbers
    record_of h = let w = which_there (table_in b) e in (entry_of_lem b w.0 w.1 i h).record_there

-- the value at an index is that of the first entry from there on
value_from : (es : List Entry) (i : ℕ) → value_at i es ≡ value_at 0 (drop i es)
unfolding value_at
value_from [] zero = refl
value_from [] (suc i) = refl
value_from (e ∷ es) zero = refl
value_from (e ∷ es) (suc i) = value_from es i

value_past : (es : List Entry) (i : ℕ) → length es ≤ i → value_at i es ≡ none
unfolding value_at
value_past [] i h = refl
value_past (e ∷ es) zero h = absurd (omega arith)
value_past (e ∷ es) (suc i) h = value_past es i (omega arith)

pub part_is_value : PartIsValue
unfolding value_in on_table or_missing value_at
part_is_value b i = go (table_in b) refl
  where
    past : (t : Decoded) → table_in b ≡ some t → b.entry_count ≤ i → value_at i t.entries ≡ none
    past t e h = value_past t.entries i (omega (arith, count b i t e))

    here : (t : Decoded) → table_in b ≡ some t → i < b.entry_count
        → value_at i t.entries ≡ some (part b.text (get_or b.entry_numbers (5 * i + 3) 0) (get_or b.entry_numbers (5 * i + 4) 0))
    here t e h = value_from t.entries i ∙ rw (entry_of_lem b t e i h).here

    go : (o : Option Decoded) → table_in b ≡ o → PartOfValue b i (part_in b i)
    go none e = rw (part_faulty b i e, e)
    go (some t) e =
        by_cases (leb b.entry_count i)
        (λ q. let h = leb-true b.entry_count i q in rw (part_missing b i t e h) (rw (e, past t e h)))
        (λ q. let h = leb-false b.entry_count i q in rw (part-there b i t e h) ((good_of b t e i h).value, rw (e, here t e h)))

-- ---- the part that is handed back

module _ (b : Lent) (i : ℕ) (r : Result declared.Part Error) where
  module _ (p : declared.Part) (q : r ≡ Ok p) (e : value_means r ≡ part_in b i) where
    told : part_in b i ≡ accepted (part_means p)
    told = sym e ∙ ap value_means q

    agrees : PartOfValue b i (accepted (part_means p))
    agrees = subst (PartOfValue b i) told (part_is_value b i)

    pub part-inside : p.start + p.length ≤ length b.text
    part-inside = agrees.0

    -- a slice of the text from its start on
    pub hands_part : (text result : ℕ × ℕ) → result.0 ≡ text.0 → result.1 ≡ text.1 + p.start
        → HandsBack b i text result (take (p.start + p.length - p.start) (drop p.start b.text))
    hands_part text result s t = record {
      bytes = lent-part b.text p.start p.length ∙ sym (ap bytes_or agrees.1);
      block = s;
      offset = t ∙ ap (λ (z : ℕ). text.1 + z) (sym (ap (λ (o : Outcome Part). (part_or o).start) told));
    }

  -- or the empty one at the start
  pub hands_nothing : (k : Error) → r ≡ Err k → value_means r ≡ part_in b i → (text result : ℕ × ℕ) → result.0 ≡ text.0 → result.1 ≡ text.1
      → HandsBack b i text result []
  hands_nothing k q e text result s t =
      let o : part_in b i ≡ error_means k = sym e ∙ ap value_means q in
      let v : PartOfValue b i (error_means k) = subst (PartOfValue b i) o (part_is_value b i) in
      record {
        bytes = sym (ap bytes_or v);
        block = s;
        offset = t ∙ sym (ap (λ (z : ℕ). text.1 + z) (ap (λ (p : Outcome Part). (part_or p).start) o) ∙ add-zero text.1);
      }
