-- The first and the last entry of a section and a key: what the code tests, and what the index says.
use mathlib.Core.Path.{◌≡◌, refl, sym, ap, ◌∙◌}
use Prim.Native.Nat.{ℕ, zero, suc, ◌+◌, ◌-◌, ◌*◌, ◌≤◌, ◌<◌}
use native.Mathlib.Nat.{add-zero, zero-add}
use native.Mathlib.Omega.{arith}
use mathlib.Core.Bool.{Bool, true, false}
use mathlib.Core.Option.{Option, none, some}
use Rattle.std.specs.Prelude as prelude
use Rattle.std.specs.Prelude.{None, Some, MatchOption}
use mathlib.Core.List.{List, [], ◌∷◌, ◌++◌}
use lib.ListN.{length, take, drop}
use lib.Seq.{drop-length}
use Rattle.lines.specs.Bytes.{Bytes}
use Rattle.lines.proofs.Bools.{by_cases}
use Rattle.table.specs.Tables.{Entry}
use Rattle.lookup.specs.Decoding.{part, Lent, Decoded, table_in}
use Rattle.lookup.specs.Questions.{is_entry, indexes_from, first_of, last_of, asked}
use Rattle.lookup.specs.Steps.{there, entry_of, matches_at, matches, IsFirst, IsAsked, EntryInside}
use Rattle.lookup.specs.declared.search.Which.{Which}
use Rattle.lookup.specs.declared.search.Which.TheVariants.{First, Last}
use Rattle.lookup.proofs.Decoded.{which_there, entries_count, table_halves, entry_of_lem, good_of, name_of}

-- ---- the record of an entry

module _ (b : Lent) (t : Decoded) (e : table_in b ≡ some t) (i : ℕ) (h : i < b.entry_count) where
  -- it is there, and what it points to is inside
  pub record_inside : EntryInside b.text b.section_numbers b.entry_numbers (5 * i)
  record_inside =
      let f = entry_of_lem b t e i h in
      let n = name_of b t e i h in
      record {
        there_is = f.record_there;
        key = (good_of b t e i h).key;
        section = n.record_there;
        name = n.name_inside;
      }

  -- what the code compares is what the definition compares
  pub matches_entry : (x k : Bytes) → matches_at x k b.text b.section_numbers b.entry_numbers (5 * i) ≡ is_entry t.names x k (entry_of b.text b.entry_numbers (5 * i))
  unfolding is_entry
  matches_entry x k = rw (name_of b t e i h).name

-- so it is wherever the buffers hold a table
pub inside_there : (b : Lent) → there (table_in b) ≡ true → (i : ℕ) → i < b.entry_count → EntryInside b.text b.section_numbers b.entry_numbers (5 * i)
inside_there b e i h =
    let w = which_there (table_in b) e in
    record_inside b w.0 w.1 i h

-- a part as the code lends it
pub lent-part : (text : Bytes) (a n : ℕ) → take (a + n - a) (drop a text) ≡ part text a n
lent-part text a n =
    let e : a + n - a ≡ n = omega arith in
    rw e

-- ---- lists of indexes

-- those of the front, and those of the rest
indexes_split : (es : List Entry) (a i : ℕ) (ns : List Bytes) (x k : Bytes)
    → indexes_from a ns x k es ≡ indexes_from a ns x k (take i es) ++ indexes_from (a + i) ns x k (drop i es)
unfolding indexes_from
indexes_split [] a zero ns x k = refl
indexes_split [] a (suc i) ns x k = refl
indexes_split (e ∷ es) a zero ns x k = rw (add-zero a)
indexes_split (e ∷ es) a (suc i) ns x k =
    let n : a + suc i ≡ suc a + i = omega arith in
    by_cases (is_entry ns x k e)
    (λ q. rw (q, n) (ap (λ (l : List ℕ). a ∷ l) (indexes_split es (suc a) i ns x k)))
    (λ q. rw (q, n) (indexes_split es (suc a) i ns x k))

last_behind : (is : List ℕ) (j : ℕ) → last_of (is ++ j ∷ []) ≡ some j
unfolding last_of
last_behind [] j = refl
last_behind (i ∷ []) j = refl
last_behind (i ∷ h ∷ is) j = last_behind (h ∷ is) j

-- ---- the index that is asked for

-- what an `Option` of the code is in the definitions
abbrev pub known : {A : Type 0} → prelude.Option A → Option A
known None = none
known (Some x) = some x

module _ (b : Lent) (x k : Bytes) where
  -- the entries from the count on: none
  past_all : (t : Decoded) → table_in b ≡ some t → drop b.entry_count t.entries ≡ []
  past_all t e =
      let n : length t.entries ≡ b.entry_count = entries_count b.entry_count b.entry_numbers b.text b.section_count t.entries (table_halves b t e).entries in
      rw (← n) (drop-length t.entries)

  module _ (i : ℕ) (h : i < b.entry_count) (t : Decoded) (e : table_in b ≡ some t) where
    here : drop i t.entries ≡ entry_of b.text b.entry_numbers (5 * i) ∷ drop (suc i) t.entries
    here = (entry_of_lem b t e i h).here

    -- the entry i is one
    yes : matches b x k i ≡ true
        → indexes_from i t.names x k (drop i t.entries) ≡ i ∷ indexes_from (suc i) t.names x k (drop (suc i) t.entries)
    unfolding indexes_from matches
    yes q = rw (here, sym (matches_entry b t e i h x k) ∙ q)

    -- or not
    no : matches b x k i ≡ false
        → indexes_from i t.names x k (drop i t.entries) ≡ indexes_from (suc i) t.names x k (drop (suc i) t.entries)
    unfolding indexes_from matches
    no q = rw (here, sym (matches_entry b t e i h x k) ∙ q)

  module _ (t : Decoded) (e : table_in b ≡ some t) where
    -- where none of the entries before i is one, those from i on decide
    ahead : (i : ℕ) → i ≤ b.entry_count → ((j : ℕ) → j < i → matches b x k j ≡ false)
        → indexes_from 0 t.names x k t.entries ≡ indexes_from i t.names x k (drop i t.entries)
    ahead zero h f = refl
    ahead (suc i) h f = ahead i (omega arith) (λ j l. f j (omega arith)) ∙ no i (omega arith) t e (f i (omega arith))

    -- where none of the n entries from i on is one, there is no index behind
    behind : (n i : ℕ) → i + n ≡ b.entry_count → ((j : ℕ) → i ≤ j → j < b.entry_count → matches b x k j ≡ false)
        → indexes_from i t.names x k (drop i t.entries) ≡ []
    unfolding indexes_from
    behind zero i h f = let c : i ≡ b.entry_count = omega arith in rw (c, past_all t e)
    behind (suc n) i h f =
        no i (omega arith) t e (f i (omega arith) (omega arith))
        ∙ behind n (suc i) (omega arith) (λ j l m. f j (omega arith) m)

    -- so the index that was found is the one that is asked for
    pub finds : (w : Which) (r : prelude.Option ℕ) → IsAsked w b.entry_count (matches b x k) r → asked w (indexes_from 0 t.names x k t.entries) ≡ known r
    unfolding first_of last_of indexes_from
    finds First None h = rw (ahead b.entry_count (omega arith) h, past_all t e)
    finds First (Some i) h = rw (ahead i (omega arith) h.2, yes i h.0 t e h.1)
    finds Last None h = rw (ahead b.entry_count (omega arith) h, past_all t e)
    finds Last (Some i) h =
        let p : indexes_from i t.names x k (drop i t.entries) ≡ i ∷ [] =
        yes i h.0 t e h.1 ∙ ap (λ (l : List ℕ). i ∷ l) (behind (b.entry_count - suc i) (suc i) (omega (arith, h.0)) (λ j l m. h.2 j (omega arith) m)) in
        let s : indexes_from 0 t.names x k t.entries ≡ indexes_from 0 t.names x k (take i t.entries) ++ i ∷ [] =
        indexes_split t.entries 0 i t.names x k ∙ ap (λ (l : List ℕ). indexes_from 0 t.names x k (take i t.entries) ++ l) (rw zero-add p) in
        rw (s, last_behind (indexes_from 0 t.names x k (take i t.entries)) i)

-- `find` over the indexes from 0 on
pub first_of_range : (n : ℕ) (test : ℕ → Bool) (r : prelude.Option ℕ)
    → MatchOption r ((j : ℕ) → 0 ≤ j → j < n → test j ≡ false) (λ i. (0 ≤ i) × (i < n) × (test i ≡ true) × ((j : ℕ) → 0 ≤ j → j < i → test j ≡ false))
    → IsFirst n test r
first_of_range n test None h = λ j l. h j (omega arith) l
first_of_range n test (Some i) h = (h.1, h.2, λ j l. h.3 j (omega arith) l)
