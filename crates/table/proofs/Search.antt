-- A name looked for among the sections in the buffers: a pair of numbers whose part is the name has the index that the
-- definition gives, where the names are apart, and where no pair is the name it gives none.
use Rattle.std.proofs.Common.{◌≡◌, ℕ, zero, suc, ◌+◌, ◌-◌, ◌*◌, ◌<◌, ◌≤◌, true, false, List, [], ◌∷◌, ◌++◌, length, get_or, take, drop, sym, refl, ap, ◌∙◌, append_assoc, zero-add, arith, length-append, drop-cons, take_at, drop_at, le-leb}
use mathlib.Core.Option.{Option, none, some}
use borrow.Author.Tests.{lt-leb}
use Rattle.lines.specs.Bytes.{Bytes, equal}
use Rattle.lines.specs.Buffers.{filled}
use Rattle.lines.proofs.Bools.{by_cases, equal_eq}
use Rattle.table.specs.Tables.{Event, new_section, new_entry, names, later, index_of}
use Rattle.table.specs.Contents.{text_of, section_record, records_from}
use Rattle.table.proofs.Events.{Below, index_below}
use Rattle.table.specs.Laws.{Apart}
use Rattle.table.specs.Steps.{is_named, first_named, section_named, SectionFound}
use Rattle.std.specs.Prelude.{Option as CodeOption, Some, None, MatchOption}
use mathlib.Core.Path.{subst}
use native.Mathlib.Numerals.{add-one}
use Rattle.table.proofs.TableLaws.{index_apart}

-- ---- one pair

module _ (x text : Bytes) (a n : ℕ) where
  pub outside_text : length text < a + n → is_named x text a n ≡ false
  unfolding is_named
  outside_text h = rw (lt-leb (a + n) (length text) h)

  pub inside_text : a + n ≤ length text → is_named x text a n ≡ equal x (take n (drop a text))
  unfolding is_named
  inside_text h = rw (le-leb (a + n) (length text) h)

-- ---- pair after pair

-- the index of the pair, with i pairs passed of k
abbrev pub Looking : (x text : Bytes) (k : ℕ) (ns : List ℕ) (i : ℕ) → Type 0
Looking x text k ns i = (i ≤ k) × (first_named x text k ns ≡ i + first_named x text (k - i) (drop (2 * i) ns))

module _ (x text : Bytes) (k : ℕ) (ns : List ℕ) where
  pub looking_start : Looking x text k ns 0
  looking_start =
      let e : k - 0 ≡ k = omega arith in
      (omega arith, rw e (sym (zero-add _)))

  module _ (i : ℕ) (l : Looking x text k ns i) where
    -- the pair at an index, and the pairs behind it
    two : i < k → 2 * k ≤ length ns → drop (2 * i) ns ≡ get_or ns (2 * i) 0 ∷ get_or ns (2 * i + 1) 0 ∷ drop (2 * (i + 1)) ns
    two h m =
        let e : suc (suc (2 * i)) ≡ 2 * (i + 1) = omega arith in
        let o : suc (2 * i) ≡ 2 * i + 1 = omega arith in
        drop-cons ns (2 * i) 0 (omega arith)
        ∙ ap (λ (r : List ℕ). get_or ns (2 * i) 0 ∷ r) (drop-cons ns (suc (2 * i)) 0 (omega arith))
        ∙ rw (e, o)

    here : i < k → 2 * k ≤ length ns
        → first_named x text (k - i) (drop (2 * i) ns)
        ≡ first_named x text (suc (k - (i + 1))) (get_or ns (2 * i) 0 ∷ get_or ns (2 * i + 1) 0 ∷ drop (2 * (i + 1)) ns)
    here h m =
        let e : k - i ≡ suc (k - (i + 1)) = omega arith in
        rw (two h m, e)

    pub looking_more : i < k → 2 * k ≤ length ns → is_named x text (get_or ns (2 * i) 0) (get_or ns (2 * i + 1) 0) ≡ false
        → Looking x text k ns (i + 1)
    unfolding first_named
    looking_more h m e =
        let q : first_named x text (k - i) (drop (2 * i) ns) ≡ suc (first_named x text (k - (i + 1)) (drop (2 * (i + 1)) ns)) = here h m ∙ rw e in
        (omega arith, omega (arith, l.1, q))

    pub looking_over : k ≤ i → first_named x text k ns ≡ k
    unfolding first_named
    looking_over h =
        let e : k - i ≡ 0 = omega arith in
        let q : first_named x text (k - i) (drop (2 * i) ns) ≡ 0 = rw e in
        omega (arith, l.0, l.1, q)

  -- where no pair is the name, all are passed
  pub none_named : 2 * k ≤ length ns → ((i : ℕ) → 0 ≤ i → i < k → section_named x text ns i ≡ false) → first_named x text k ns ≡ k
  none_named m other = looking_over k (passed k (omega arith)) (omega arith)
    where
      passed : (i : ℕ) → i ≤ k → Looking x text k ns i
      passed zero h = looking_start
      passed (suc i) h =
          subst (λ (n : ℕ). Looking x text k ns n) (add-one i)
          (looking_more i (passed i (omega arith)) (omega arith) m (other i (omega arith) (omega arith)))

-- what `find` over the indexes says
pub found_among : (x text : Bytes) (k : ℕ) (ns : List ℕ) → 2 * k ≤ length ns → (r : CodeOption ℕ)
    → MatchOption r ((i : ℕ) → 0 ≤ i → i < k → section_named x text ns i ≡ false)
    (λ i. (0 ≤ i) × (i < k) × (section_named x text ns i ≡ true) × ((j : ℕ) → 0 ≤ j → j < i → section_named x text ns j ≡ false))
    → SectionFound x text k ns r
found_among x text k ns m (Some i) f = (f.1, f.2)
found_among x text k ns m None f = none_named x text k ns m f

-- ---- the sections of a table: the first that is the name

-- an index, or the number of all where there is none
abbrev index_or : ℕ → Option ℕ → ℕ
index_or n none = n
index_or n (some i) = i

index_later : (n : ℕ) (o : Option ℕ) → suc (index_or n o) ≡ index_or (suc n) (later o)
index_later n none = refl
index_later n (some i) = refl

-- the name that stands in the text behind other bytes
named_part : (x pre y post : Bytes) → is_named x (pre ++ (y ++ post)) (length pre) (length y) ≡ equal x y
named_part x pre y post =
    let l : length (pre ++ (y ++ post)) ≡ length pre + (length y + length post) =
    length-append pre (y ++ post) ∙ ap (λ (n : ℕ). length pre + n) (length-append y post) in
    inside_text x (pre ++ (y ++ post)) (length pre) (length y) (omega arith)
    ∙ rw (drop_at pre (y ++ post) (length pre) refl, take_at y post (length y) refl)

-- the text of the first event goes to the bytes before
regrouped : (pre y z post : Bytes) → pre ++ ((y ++ z) ++ post) ≡ (pre ++ y) ++ (z ++ post)
regrouped pre y z post = ap (λ (l : Bytes). pre ++ l) (append_assoc y z post) ∙ sym (append_assoc pre y (z ++ post))

-- the events' text behind other bytes
search_events : (es : List Event) (x pre post : Bytes) (rest : List ℕ)
    → first_named x (pre ++ (text_of es ++ post)) (length (names es)) (records_from section_record (length pre) es ++ rest)
    ≡ index_or (length (names es)) (index_of x (names es))
unfolding first_named text_of names records_from index_of
search_events [] x pre post rest = refl
search_events (new_section y ∷ es) x pre post rest =
    let s : pre ++ ((y ++ text_of es) ++ post) ≡ pre ++ (y ++ (text_of es ++ post)) = ap (λ (l : Bytes). pre ++ l) (append_assoc y (text_of es) post) in
    let q : is_named x (pre ++ (text_of (new_section y ∷ es) ++ post)) (length pre) (length y) ≡ equal x y = ap (λ (l : Bytes). is_named x l (length pre) (length y)) s ∙ named_part x pre y (text_of es ++ post) in
    let r : pre ++ (text_of (new_section y ∷ es) ++ post) ≡ (pre ++ y) ++ (text_of es ++ post) = regrouped pre y (text_of es) post in
    by_cases (equal x y)
    (λ e. rw (q, e))
    (λ e. rw (q, e)
    (ap suc
    (ap (λ (l : Bytes). first_named x l (length (names es)) (records_from section_record (length pre + length y) es ++ rest)) r
    ∙ ap (λ (n : ℕ). first_named x ((pre ++ y) ++ (text_of es ++ post)) (length (names es)) (records_from section_record n es ++ rest)) (sym (length-append pre y))
    ∙ search_events es x (pre ++ y) post rest)
    ∙ index_later (length (names es)) (index_of x (names es))))
search_events (new_entry f ∷ es) x pre post rest =
    let y : Bytes = f.key ++ f.value in
    rw (regrouped pre y (text_of es) post, ← length-append pre y) (search_events es x (pre ++ y) post rest)

search_table : (es : List Event) (x d : Bytes) (e : List ℕ)
    → first_named x (filled (text_of es) d) (length (names es)) (filled (records_from section_record 0 es) e)
    ≡ index_or (length (names es)) (index_of x (names es))
search_table es x d e = search_events es x [] (drop (length (text_of es)) d) (drop (length (records_from section_record 0 es)) e)

-- where no pair is the name, it is new
pub table_new : (es : List Event) (x d : Bytes) (e : List ℕ)
    → first_named x (filled (text_of es) d) (length (names es)) (filled (records_from section_record 0 es) e) ≡ length (names es)
    → index_of x (names es) ≡ none
table_new es x d e h = go (index_of x (names es)) (index_below (names es) x) (sym (search_table es x d e) ∙ h)
  where
    go : (o : Option ℕ) → Below (length (names es)) o → index_or (length (names es)) o ≡ length (names es) → o ≡ none
    go none b q = refl
    go (some j) b q = absurd (omega arith)

-- ---- the sections of a table: any that is the name

-- the pair at an index is the name where the name at that index is
pair_events : (es : List Event) (i : ℕ) (x pre post : Bytes) (rest : List ℕ) → i < length (names es)
    → is_named x (pre ++ (text_of es ++ post))
    (get_or (records_from section_record (length pre) es ++ rest) (2 * i) 0) (get_or (records_from section_record (length pre) es ++ rest) (2 * i + 1) 0)
    ≡ equal x (get_or (names es) i [])
unfolding text_of names records_from
pair_events [] i x pre post rest h = absurd (omega arith)
pair_events (new_section y ∷ es) zero x pre post rest h =
    let s : pre ++ ((y ++ text_of es) ++ post) ≡ pre ++ (y ++ (text_of es ++ post)) = ap (λ (l : Bytes). pre ++ l) (append_assoc y (text_of es) post) in
    rw s (named_part x pre y (text_of es ++ post))
pair_events (new_section y ∷ es) (suc i) x pre post rest h =
    let a : 2 * suc i ≡ suc (suc (2 * i)) = omega arith in
    let b : suc (suc (2 * i)) + 1 ≡ suc (suc (2 * i + 1)) = omega arith in
    rw (regrouped pre y (text_of es) post, a, b, ← length-append pre y) (pair_events es i x (pre ++ y) post rest (omega arith))
pair_events (new_entry f ∷ es) i x pre post rest h =
    let y : Bytes = f.key ++ f.value in
    rw (regrouped pre y (text_of es) post, ← length-append pre y) (pair_events es i x (pre ++ y) post rest h)

-- so a pair that is the name has the name's index
pub table_known : (es : List Event) (x d : Bytes) (e : List ℕ) (i : ℕ) → Apart [] (names es) → i < length (names es)
    → is_named x (filled (text_of es) d)
    (get_or (filled (records_from section_record 0 es) e) (2 * i) 0) (get_or (filled (records_from section_record 0 es) e) (2 * i + 1) 0) ≡ true
    → index_of x (names es) ≡ some i
table_known es x d e i a l h =
    let n : equal x (get_or (names es) i []) ≡ true =
    sym (pair_events es i x [] (drop (length (text_of es)) d) (drop (length (records_from section_record 0 es)) e) l) ∙ h in
    ap (λ (z : Bytes). index_of z (names es)) (equal_eq x (get_or (names es) i []) n) ∙ index_apart (names es) [] i a l ∙ ap some (zero-add i)
