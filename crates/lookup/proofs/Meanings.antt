-- What the first and the last index say of the entries, and what it says that there is none. By recursion over the
-- entries, counted from any index.
use mathlib.Core.Path.{◌≡◌, refl, sym, ap}
use Prim.Native.Nat.{ℕ, suc, ◌+◌}
use native.Mathlib.Omega.{arith}
use mathlib.Core.Bool.{true}
use mathlib.Core.Option.{Option, none, some}
use mathlib.Core.List.{List, [], ◌∷◌, ◌++◌}
use lib.ListN.{length}
use Rattle.lines.specs.Bytes.{Bytes}
use Rattle.lines.specs.Answers.{accepted}
use Rattle.lines.proofs.Bools.{by_cases, clash}
use Rattle.table.specs.Tables.{Entry}
use Rattle.lookup.specs.Decoding.{Decoded, table_in}
use Rattle.lookup.specs.Questions.{is_entry, indexes_from, first_of, last_of, asked, value_at, on_table, or_missing, index_in, value_in}
use Rattle.lookup.specs.Laws.{NoneOf, Stands, FirstMeans, LastMeans, NoneMeans, FoundEntry, FoundIsEntry}
use Rattle.lookup.specs.declared.search.Which.{Which}
use Rattle.lookup.specs.declared.search.Which.TheVariants.{First, Last}
use Rattle.lookup.proofs.Decoded.{nothing-there}

not_empty : {X : Type 0} (a : ℕ) (l : List ℕ) → a ∷ l ≡ [] → X
not_empty a l e = let z : suc (length l) ≡ 0 = ap length e in absurd (omega arith)

-- an entry whose index counts from a
record Counted (ns : List Bytes) (x k : Bytes) (es : List Entry) (a i : ℕ) : Type 0 where
  front : List Entry
  entry : Entry
  back : List Entry
  list : es ≡ front ++ entry ∷ back
  index : i ≡ a + length front
  is_one : is_entry ns x k entry ≡ true

module _ (ns : List Bytes) (x k : Bytes) where
  -- ---- none

  -- no index, no entry
  none_of : (es : List Entry) (a : ℕ) → indexes_from a ns x k es ≡ [] → NoneOf ns x k es
  unfolding indexes_from
  none_of [] a e = tt
  none_of (f ∷ es) a e =
      by_cases (is_entry ns x k f)
      (λ q. not_empty a (indexes_from (suc a) ns x k es) (rw q at e))
      (λ q. (q, none_of es (suc a) (rw q at e)))

  no_index : (es : List Entry) (a : ℕ) → NoneOf ns x k es → indexes_from a ns x k es ≡ []
  unfolding indexes_from
  no_index [] a h = refl
  no_index (f ∷ es) a h = rw h.0 (no_index es (suc a) h.1)

  -- ---- one more in front

  further : (f : Entry) (es : List Entry) (a i : ℕ) → Counted ns x k es (suc a) i → Counted ns x k (f ∷ es) a i
  further f es a i s = record {
    front = f ∷ s.front;
    entry = s.entry;
    back = s.back;
    list = ap (λ (l : List Entry). f ∷ l) s.list;
    index = omega (arith, s.index);
    is_one = s.is_one;
  }

  at_front : (f : Entry) (es : List Entry) (a i : ℕ) → is_entry ns x k f ≡ true → some a ≡ some i → Counted ns x k (f ∷ es) a i
  at_front f es a i q e = record { front = []; entry = f; back = es; list = refl; index = let z : a ≡ i = cc e in omega arith; is_one = q }

  -- ---- the first

  first_is : (es : List Entry) (a i : ℕ) → first_of (indexes_from a ns x k es) ≡ some i → (s : Counted ns x k es a i) × NoneOf ns x k s.front
  unfolding indexes_from first_of at_front further
  first_is [] a i e = nothing-there e
  first_is (f ∷ es) a i e =
      by_cases (is_entry ns x k f)
      (λ q. (at_front f es a i q (rw q at e), tt))
      (λ q. let s = first_is es (suc a) i (rw q at e) in (further f es a i s.0, (q, s.1)))

  -- ---- the last

  -- by the indexes of the entries behind f
  last_step : (f : Entry) (es : List Entry) (a i : ℕ) (js : List ℕ) → indexes_from (suc a) ns x k es ≡ js
      → (last_of js ≡ some i → (s : Counted ns x k es (suc a) i) × NoneOf ns x k s.back)
      → last_of (indexes_from a ns x k (f ∷ es)) ≡ some i → (s : Counted ns x k (f ∷ es) a i) × NoneOf ns x k s.back
  unfolding indexes_from last_of at_front further
  last_step f es a i [] p later e =
      by_cases (is_entry ns x k f)
      (λ q. (at_front f es a i q (rw (q, p) at e), none_of es (suc a) p))
      (λ q. nothing-there (rw (q, p) at e))
  last_step f es a i (j ∷ js) p later e =
      let s = later (by_cases (is_entry ns x k f) (λ q. rw (q, p) at e) (λ q. rw (q, p) at e)) in
      (further f es a i s.0, s.1)

  last_is : (es : List Entry) (a i : ℕ) → last_of (indexes_from a ns x k es) ≡ some i → (s : Counted ns x k es a i) × NoneOf ns x k s.back
  unfolding indexes_from last_of
  last_is [] a i e = nothing-there e
  last_is (f ∷ es) a i e = last_step f es a i (indexes_from (suc a) ns x k es) refl (λ q. last_is es (suc a) i q) e

  -- ---- counted from 0

  stands : (es : List Entry) (i : ℕ) → Counted ns x k es 0 i → Stands ns x k es i
  stands es i s = record {
    front = s.front;
    entry = s.entry;
    back = s.back;
    list = s.list;
    index = omega (arith, s.index);
    is_one = s.is_one;
  }

pub first_means : FirstMeans
unfolding stands
first_means ns x k es i e = let s = first_is ns x k es 0 i e in (stands ns x k es i s.0, s.1)

pub last_means : LastMeans
unfolding stands
last_means ns x k es i e = let s = last_is ns x k es 0 i e in (stands ns x k es i s.0, s.1)

-- no index was asked for exactly where there is none
none_asked : (w : Which) (is : List ℕ) → asked w is ≡ none → is ≡ []
unfolding first_of last_of
none_asked First [] e = refl
none_asked First (i ∷ is) e = nothing-there (sym e)
none_asked Last [] e = refl
none_asked Last (i ∷ []) e = nothing-there (sym e)
none_asked Last (i ∷ j ∷ is) e = not_empty j is (none_asked Last (j ∷ is) e)

asked_none : (w : Which) → asked w [] ≡ none
unfolding first_of last_of
asked_none First = refl
asked_none Last = refl

pub none_means : NoneMeans
none_means w ns x k es = (
  λ e. none_of ns x k es 0 (none_asked w (indexes_from 0 ns x k es) e),
  λ h. rw (no_index ns x k es 0 h) (asked_none w),
)

-- ---- an entry that was found has a value

value-between : (front : List Entry) (e : Entry) (back : List Entry) → value_at (length front) (front ++ e ∷ back) ≡ some e.value
unfolding value_at
value-between [] e back = refl
value-between (f ∷ front) e back = value-between front e back

pub value_stands : (ns : List Bytes) (x k : Bytes) (es : List Entry) (i : ℕ) (s : Stands ns x k es i) → value_at i es ≡ some s.entry.value
value_stands ns x k es i s = rw (s.index, s.list) (value-between s.front s.entry s.back)

pub asked_stands : (w : Which) (ns : List Bytes) (x k : Bytes) (es : List Entry) (i : ℕ) → asked w (indexes_from 0 ns x k es) ≡ some i → Stands ns x k es i
asked_stands First ns x k es i e = (first_means ns x k es i e).0
asked_stands Last ns x k es i e = (last_means ns x k es i e).0

-- what is not missing
pub some_found : {A : Type 0} (o : Option A) (x : A) → or_missing o ≡ accepted x → o ≡ some x
unfolding or_missing
some_found none x e = let z : ◌≡◌ {A = ℕ} 0 1 = cc e in clash z
some_found (some y) x e = let z : y ≡ x = cc e in rw z

pub found_is_entry : FoundIsEntry
unfolding index_in value_in on_table or_missing
found_is_entry b w x k i e = go (table_in b) refl e
  where
    go : (o : Option Decoded) → table_in b ≡ o
        → on_table o (λ t. or_missing (asked w (indexes_from 0 t.names x k t.entries))) ≡ accepted i
        → FoundEntry b x k i
    go none q e = let z : ◌≡◌ {A = ℕ} 0 1 = cc e in clash z
    go (some t) q e =
        let s = asked_stands w t.names x k t.entries i (some_found (asked w (indexes_from 0 t.names x k t.entries)) i e) in
        record { table = t; there = q; stands = s; value = rw (q, value_stands t.names x k t.entries i s) }
