-- What the records of a table say: where the buffers hold one, each record is there and good, and it says what stands in
-- the table at its index.
use mathlib.Core.Path.{◌≡◌, refl, sym, ap, ◌∙◌}
use Prim.Native.Nat.{ℕ, zero, suc, ◌+◌, ◌*◌, ◌≤◌, ◌<◌}
use native.Mathlib.Omega.{arith}
use mathlib.Core.Bool.{Bool, true, false, ◌&&◌}
use mathlib.Core.Option.{Option, none, some}
use mathlib.Core.List.{List, [], ◌∷◌}
use lib.ListN.{length, drop, get_or}
use lib.Dec.{ltb}
use borrow.Author.Tests.{leb-true, ltb-true}
use Rattle.lines.specs.Bytes.{Bytes}
use Rattle.lines.proofs.Bools.{impossible, and_left, and_right}
use Rattle.table.specs.Tables.{Entry}
use Rattle.lookup.specs.Decoding.{part, inside, followed, names_in, entries_in, Lent, Decoded, together, table_in}
use Rattle.lookup.specs.Steps.{there, good_entry, entry_of}

-- ---- options

pub nothing-there {ℓ} : {A : Type 0} {X : Type ℓ} {x : A} → none ≡ some x → X
nothing-there e = impossible (ap there e)

-- what is there
pub which_there : {A : Type 0} (o : Option A) → there o ≡ true → (x : A) × (o ≡ some x)
which_there none e = impossible e
which_there (some x) e = (x, refl)

some_same : {A : Type 0} (x y : A) → some x ≡ some y → x ≡ y
some_same x y e = cc e

-- a record and those behind it
pub record Split {A : Type 0} (good : Bool) (x : A) (o : Option (List A)) (l : List A) : Type 0 where
  pub good_one : good ≡ true
  pub rest : List A
  pub behind : o ≡ some rest
  pub list : l ≡ x ∷ rest

pub followed_split : {A : Type 0} (good : Bool) (x : A) (o : Option (List A)) (l : List A) → followed good x o ≡ some l → Split good x o l
unfolding followed
followed_split false x o l e = nothing-there e
followed_split true x none l e = nothing-there e
followed_split true x (some xs) l e = record { good_one = refl; rest = xs; behind = refl; list = sym (some_same (x ∷ xs) l e) }

-- ---- sections

-- the record of the section j, and its name
pub record NameFacts (text : Bytes) (ns : List ℕ) (xs : List Bytes) (j : ℕ) : Type 0 where
  pub record_there : 2 * j + 2 ≤ length ns
  pub name_inside : get_or ns (2 * j) 0 + get_or ns (2 * j + 1) 0 ≤ length text
  pub name : get_or xs j [] ≡ part text (get_or ns (2 * j) 0) (get_or ns (2 * j + 1) 0)

pub name_facts : (m : ℕ) (ns : List ℕ) (text : Bytes) (xs : List Bytes) → names_in text m ns ≡ some xs → (j : ℕ) → j < m → NameFacts text ns xs j
unfolding names_in
name_facts zero ns text xs e j h = absurd (omega arith)
name_facts (suc m) [] text xs e j h = nothing-there e
name_facts (suc m) (a ∷ []) text xs e j h = nothing-there e
name_facts (suc m) (a ∷ n ∷ ns) text xs e j h =
    go j h (followed_split (inside text a n) (part text a n) (names_in text m ns) xs e) (λ ys q i l. name_facts m ns text ys q i l)
  where
    go : (j : ℕ) → j < suc m → Split (inside text a n) (part text a n) (names_in text m ns) xs
        → ((ys : List Bytes) → names_in text m ns ≡ some ys → (i : ℕ) → i < m → NameFacts text ns ys i)
        → NameFacts text (a ∷ n ∷ ns) xs j
    go zero h s later = record {
      record_there = omega arith;
      name_inside = leb-true (a + n) (length text) s.good_one;
      name = ap (λ (l : List Bytes). get_or l 0 []) s.list;
    }
    go (suc j) h s later =
        let f : NameFacts text ns s.rest j = later s.rest s.behind j (omega arith) in
        let e : 2 * suc j ≡ suc (suc (2 * j)) = omega arith in
        let e1 : 2 * suc j + 1 ≡ suc (suc (2 * j + 1)) = omega arith in
        record {
          record_there = omega (arith, f.record_there);
          name_inside = rw (e1, e) f.name_inside;
          name = rw (e1, e) (ap (λ (l : List Bytes). get_or l (suc j) []) s.list ∙ f.name);
        }

pub names_count : (m : ℕ) (ns : List ℕ) (text : Bytes) (xs : List Bytes) → names_in text m ns ≡ some xs → length xs ≡ m
unfolding names_in
names_count zero ns text xs e = ap length (sym (some_same [] xs e))
names_count (suc m) [] text xs e = nothing-there e
names_count (suc m) (_ ∷ []) text xs e = nothing-there e
names_count (suc m) (a ∷ n ∷ ns) text xs e =
    let q = followed_split (inside text a n) (part text a n) (names_in text m ns) xs e in
    ap length q.list ∙ ap suc (names_count m ns text q.rest q.behind)

-- ---- entries

-- a record that is not faulty
pub record Good (text : Bytes) (m : ℕ) (ns : List ℕ) (at : ℕ) : Type 0 where
  pub section : get_or ns at 0 < m
  pub key : get_or ns (at + 1) 0 + get_or ns (at + 2) 0 ≤ length text
  pub value : get_or ns (at + 3) 0 + get_or ns (at + 4) 0 ≤ length text

pub good_parts : (text : Bytes) (m : ℕ) (ns : List ℕ) (at : ℕ) → good_entry text m ns at ≡ true → Good text m ns at
good_parts text m ns at e =
    let i : Bool = ltb (get_or ns at 0) m in
    let k : Bool = inside text (get_or ns (at + 1) 0) (get_or ns (at + 2) 0) in
    let v : Bool = inside text (get_or ns (at + 3) 0) (get_or ns (at + 4) 0) in
    let r : (k && v) ≡ true = and_right i (k && v) e in
    record {
      section = ltb-true (get_or ns at 0) m (and_left i (k && v) e);
      key = leb-true (get_or ns (at + 1) 0 + get_or ns (at + 2) 0) (length text) (and_left k v r);
      value = leb-true (get_or ns (at + 3) 0 + get_or ns (at + 4) 0) (length text) (and_right k v r);
    }

-- the record of the entry i, and the entry
pub record EntryFacts (text : Bytes) (m : ℕ) (ns : List ℕ) (es : List Entry) (i : ℕ) : Type 0 where
  pub record_there : 5 * i + 5 ≤ length ns
  pub good : good_entry text m ns (5 * i) ≡ true
  pub here : drop i es ≡ entry_of text ns (5 * i) ∷ drop (suc i) es

-- five numbers further on
five_on : (i c : ℕ) → 5 * suc i + c ≡ suc (suc (suc (suc (suc (5 * i + c)))))
five_on i c = omega arith

pub entry_facts : (k : ℕ) (ns : List ℕ) (text : Bytes) (m : ℕ) (es : List Entry) → entries_in text m k ns ≡ some es → (i : ℕ) → i < k → EntryFacts text m ns es i
unfolding entries_in
entry_facts zero ns text m es e i h = absurd (omega arith)
entry_facts (suc k) [] text m es e i h = nothing-there e
entry_facts (suc k) (_ ∷ []) text m es e i h = nothing-there e
entry_facts (suc k) (_ ∷ _ ∷ []) text m es e i h = nothing-there e
entry_facts (suc k) (_ ∷ _ ∷ _ ∷ []) text m es e i h = nothing-there e
entry_facts (suc k) (_ ∷ _ ∷ _ ∷ _ ∷ []) text m es e i h = nothing-there e
entry_facts (suc k) (s ∷ a ∷ n ∷ b ∷ l ∷ ns) text m es e i h =
    go i h (followed_split (good_entry text m (s ∷ a ∷ n ∷ b ∷ l ∷ ns) 0) (entry_of text (s ∷ a ∷ n ∷ b ∷ l ∷ ns) 0) (entries_in text m k ns) es e)
    (λ fs q j l. entry_facts k ns text m fs q j l)
  where
    go : (i : ℕ) → i < suc k → Split (good_entry text m (s ∷ a ∷ n ∷ b ∷ l ∷ ns) 0) (entry_of text (s ∷ a ∷ n ∷ b ∷ l ∷ ns) 0) (entries_in text m k ns) es
        → ((fs : List Entry) → entries_in text m k ns ≡ some fs → (j : ℕ) → j < k → EntryFacts text m ns fs j)
        → EntryFacts text m (s ∷ a ∷ n ∷ b ∷ l ∷ ns) es i
    go zero h q later = record { record_there = omega arith; good = q.good_one; here = q.list ∙ ap (λ (t : List Entry). entry_of text (s ∷ a ∷ n ∷ b ∷ l ∷ ns) 0 ∷ t) (sym (ap (λ (t : List Entry). drop 1 t) q.list)) }
    go (suc i) h q later =
        let f : EntryFacts text m ns q.rest i = later q.rest q.behind i (omega arith) in
        let e : 5 * suc i ≡ suc (suc (suc (suc (suc (5 * i))))) = omega arith in
        let e1 = five_on i 1 in
        let e2 = five_on i 2 in
        let e3 = five_on i 3 in
        let e4 = five_on i 4 in
        record {
          record_there = omega (arith, f.record_there);
          good = rw (e1, e2, e3, e4, e) f.good;
          here = rw (e1, e2, e3, e4, e, q.list) f.here;
        }

pub entries_count : (k : ℕ) (ns : List ℕ) (text : Bytes) (m : ℕ) (es : List Entry) → entries_in text m k ns ≡ some es → length es ≡ k
unfolding entries_in
entries_count zero ns text m es e = ap length (sym (some_same [] es e))
entries_count (suc k) [] text m es e = nothing-there e
entries_count (suc k) (_ ∷ []) text m es e = nothing-there e
entries_count (suc k) (_ ∷ _ ∷ []) text m es e = nothing-there e
entries_count (suc k) (_ ∷ _ ∷ _ ∷ []) text m es e = nothing-there e
entries_count (suc k) (_ ∷ _ ∷ _ ∷ _ ∷ []) text m es e = nothing-there e
entries_count (suc k) (s ∷ a ∷ n ∷ b ∷ l ∷ ns) text m es e =
    let q = followed_split (good_entry text m (s ∷ a ∷ n ∷ b ∷ l ∷ ns) 0) (entry_of text (s ∷ a ∷ n ∷ b ∷ l ∷ ns) 0) (entries_in text m k ns) es e in
    ap length q.list ∙ ap suc (entries_count k ns text m q.rest q.behind)

-- ---- the table

-- its two halves
pub record Halves (b : Lent) (t : Decoded) : Type 0 where
  pub names : names_in b.text b.section_count b.section_numbers ≡ some t.names
  pub entries : entries_in b.text b.section_count b.entry_count b.entry_numbers ≡ some t.entries

pub table_halves : (b : Lent) (t : Decoded) → table_in b ≡ some t → Halves b t
unfolding table_in together
table_halves b t e =
    go (names_in b.text b.section_count b.section_numbers) (entries_in b.text b.section_count b.entry_count b.entry_numbers) refl refl e
  where
    go : (ns : Option (List Bytes)) (es : Option (List Entry))
        → names_in b.text b.section_count b.section_numbers ≡ ns
        → entries_in b.text b.section_count b.entry_count b.entry_numbers ≡ es
        → together ns es ≡ some t → Halves b t
    go none es p q e = nothing-there e
    go (some ns) none p q e = nothing-there e
    go (some ns) (some es) p q e =
        let r = some_same (record { names = ns; entries = es }) t e in
        record {
          names = p ∙ ap (λ (d : Decoded). some d.names) r;
          entries = q ∙ ap (λ (d : Decoded). some d.entries) r;
        }

pub there-together : (ns : Option (List Bytes)) (es : Option (List Entry)) → there (together ns es) ≡ (there ns && there es)
unfolding together
there-together none es = refl
there-together (some ns) none = refl
there-together (some ns) (some es) = refl

-- ---- an entry of a table

module _ (b : Lent) (t : Decoded) (e : table_in b ≡ some t) (i : ℕ) (h : i < b.entry_count) where
  pub entry_of_lem : EntryFacts b.text b.section_count b.entry_numbers t.entries i
  entry_of_lem = entry_facts b.entry_count b.entry_numbers b.text b.section_count t.entries (table_halves b t e).entries i h

  -- its section
  abbrev pub section : ℕ
  section = get_or b.entry_numbers (5 * i) 0

  pub good_of : Good b.text b.section_count b.entry_numbers (5 * i)
  good_of = good_parts b.text b.section_count b.entry_numbers (5 * i) entry_of_lem.good

  pub name_of : NameFacts b.text b.section_numbers t.names section
  name_of = name_facts b.section_count b.section_numbers b.text t.names (table_halves b t e).names section good_of.section
