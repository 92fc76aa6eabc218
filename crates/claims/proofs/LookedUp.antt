-- After an accepted read the buffers decode to the file's table; so the questions to them are questions to the table.
use mathlib.Core.Path.{◌≡◌, refl, sym, ap, ◌∙◌}
use Prim.Native.Nat.{ℕ}
use mathlib.Core.Bool.{◌||◌}
use mathlib.Core.Option.{Option, none, some}
use lib.ListN.{length}
use lib.Dec.{ltb}
use Rattle.lines.specs.Bytes.{Bytes}
use Rattle.lines.specs.Answers.{Outcome, accepted, refused}
use Rattle.lines.proofs.Bools.{by_cases, clash}
use Rattle.table.specs.Tables.{Table, names, entries, verdict}
use Rattle.table.specs.Answers.{counts_of, counted, read_in}
use Rattle.lookup.specs.Decoding.{Lent, table_in}
use Rattle.lookup.specs.Questions.{indexes_from, asked, on_table, or_missing, Part, index_in, value_in, part_in}
use Rattle.lookup.specs.Answers.{bytes_or}
use Rattle.lookup.specs.Laws.{Stands, decoded_of, read_into, PartOfValue}
use Rattle.lookup.specs.declared.search.Which.{Which}
use Rattle.lookup.specs.declared.search.Which.TheVariants.{First, Last}
use Rattle.lookup.proofs.Laws.{first_is_first, last_is_last, none_is_none, parts_are_values, tables_decode}
use Rattle.lookup.proofs.Meanings.{value_stands, some_found}
use Rattle.claims.specs.LookUps.{index_in_table, value_in_table, AcceptedRead, lent_after, FindAfterRead, ValueAfterRead, IsAsked, EntryAfterRead, MissingAfterRead, PartFor, CheckAfterRead}
use Rattle.lines.proofs.Outcomes.{accepted_is, not_accepted}

-- ---- the table that was read

module _ (f : Bytes) (c : AcceptedRead f) where
  -- the verdict on the call
  abbrev outcome : Outcome Table
  outcome = read_in (length c.text_before) (length c.sections_before) (length c.entries_before) f

  -- is that on the file, since it is not 1
  outcome_is : outcome ≡ verdict f
  unfolding read_in
  outcome_is =
      by_cases (ltb (length c.text_before) 65535 || (ltb (length c.sections_before) 128 || ltb (length c.entries_before) 2560))
      (λ e. let s : outcome ≡ refused 1 0 = rw e in not_accepted 1 0 c.counts (sym (c.promise.answer ∙ ap counted s) ∙ c.accepted_with))
      (λ e. rw e)

  pub table_there : (t : Table) × (verdict f ≡ accepted t)
  table_there = go (verdict f) refl
    where
      go : (o : Outcome Table) → verdict f ≡ o → (t : Table) × (verdict f ≡ accepted t)
      go (accepted t) e = (t, e)
      go (refused n p) e = not_accepted n p c.counts (sym (c.promise.answer ∙ ap counted (outcome_is ∙ e)) ∙ c.accepted_with)

module _ (f : Bytes) (t : Table) (v : verdict f ≡ accepted t) (c : AcceptedRead f) where
  is_table : outcome f c ≡ accepted t
  is_table = outcome_is f c ∙ v

  counts_are : c.counts ≡ counts_of t
  counts_are = accepted_is c.counts (counts_of t) (sym c.accepted_with ∙ c.promise.answer ∙ ap counted is_table)

  -- the buffers are those that the table was read into
  lent_is : lent_after c ≡ read_into t c.text_before c.sections_before c.entries_before
  lent_is =
      rw (c.promise.left.new_text, c.promise.left.new_sections, c.promise.left.new_entries, is_table, counts_are)

  decodes : table_in (lent_after c) ≡ some (decoded_of t)
  decodes = ap table_in lent_is ∙ tables_decode f t v c.text_before c.sections_before c.entries_before

  pub index_is : (w : Which) (x k : Bytes) → index_in (lent_after c) w x k ≡ index_in_table t w x k
  unfolding index_in index_in_table on_table
  index_is w x k = rw decodes

  pub value_is : (i : ℕ) → value_in (lent_after c) i ≡ value_in_table t i
  unfolding value_in value_in_table on_table
  value_is i = rw decodes

-- ---- the statements

pub find_after_read : FindAfterRead
find_after_read f t v c w x k r e = e ∙ index_is f t v c w x k

pub value_after_read : ValueAfterRead
value_after_read f t v c i at p b h = h.bytes ∙ ap bytes_or (value_is f t v c i)

-- what is found, as the definitions say it
asked_is : (t : Table) (w : Which) (x k : Bytes) (i : ℕ) → index_in_table t w x k ≡ accepted i
    → asked w (indexes_from 0 (names t.events) x k (entries t.events)) ≡ some i
unfolding index_in_table
asked_is t w x k i e = some_found (asked w (indexes_from 0 (names t.events) x k (entries t.events))) i e

value_of : (t : Table) (x k : Bytes) (i : ℕ) (s : Stands (names t.events) x k (entries t.events) i) → bytes_or (value_in_table t i) ≡ s.entry.value
unfolding value_in_table or_missing
value_of t x k i s = rw (value_stands (names t.events) x k (entries t.events) i s)

is_asked : (t : Table) (w : Which) (x k : Bytes) (i : ℕ) (b : Bytes) → b ≡ bytes_or (value_in_table t i) → index_in_table t w x k ≡ accepted i → IsAsked t w x k i b
is_asked t First x k i b q e =
    let s = first_is_first (names t.events) x k (entries t.events) i (asked_is t First x k i e) in
    record { entry = s.0; ends = s.1; value = q ∙ value_of t x k i s.0 }
is_asked t Last x k i b q e =
    let s = last_is_last (names t.events) x k (entries t.events) i (asked_is t Last x k i e) in
    record { entry = s.0; ends = s.1; value = q ∙ value_of t x k i s.0 }

pub entry_after_read : EntryAfterRead
entry_after_read f t v c w x k r e i q at p b h =
    is_asked t w x k i b (value_after_read f t v c i at p b h) (sym (find_after_read f t v c w x k r e) ∙ q)

-- where the value stands
part_for : (b : Lent) (i : ℕ) (o : Outcome Part) → PartOfValue b i o → PartFor b.text (value_in b i) o
part_for b i (accepted p) h = rw h.1
part_for b i (refused n q) h = rw h

pub check_after_read : CheckAfterRead
check_after_read f t v c i r e =
    rw (e, ← value_is f t v c i) (part_for (lent_after c) i (part_in (lent_after c) i) (parts_are_values (lent_after c) i))

-- 40 is that none is there
missing_none : {A : Type 0} (o : Option A) → or_missing o ≡ refused 40 0 → o ≡ none
unfolding or_missing
missing_none none e = refl
missing_none (some x) e = let z : ◌≡◌ {A = ℕ} 0 1 = cc e in clash z

pub missing_after_read : MissingAfterRead
unfolding index_in_table or_missing
missing_after_read f t v c w x k r e =
    let n = none_is_none w (names t.events) x k (entries t.events) in
    let a = find_after_read f t v c w x k r e in (
      λ q. n.0 (missing_none (asked w (indexes_from 0 (names t.events) x k (entries t.events))) (sym a ∙ q)),
      λ h. a ∙ rw (n.1 h),
    )
