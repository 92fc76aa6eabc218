-- Records of w numbers, one after another: a test over them goes record by record. It is stated once, for any width.
use mathlib.Core.Path.{◌≡◌, refl, ap, ◌∙◌}
use Prim.Native.Nat.{ℕ, suc, ◌+◌, ◌≤◌, ◌<◌}
use native.Mathlib.Omega.{arith}
use mathlib.Core.Bool.{Bool, true, false, ◌&&◌}
use mathlib.Core.Option.{Option, none, some}
use mathlib.Core.List.{List, [], ◌∷◌}
use lib.ListN.{length, drop, get_or}
use lib.Seq.{drop-cons}
use Rattle.lines.specs.Bytes.{Bytes}
use Rattle.lookup.specs.Decoding.{part, inside, followed, names_in, entries_in}
use Rattle.lookup.specs.Steps.{there, good_entry, entry_of}

-- ---- a test over records

-- f says of a count and numbers whether so many records are there and good; `good` says it of the record at an index
pub record ByRecords (ns : List ℕ) (w : ℕ) (f : ℕ → List ℕ → Bool) (good : ℕ → Bool) : Type 0 where
  pub nothing : (l : List ℕ) → f 0 l ≡ true
  pub short : (m : ℕ) (l : List ℕ) → length l < w → f (suc m) l ≡ false
  pub more : (m at : ℕ) → at + w ≤ length ns → f (suc m) (drop at ns) ≡ (good at && f m (drop (at + w) ns))

-- ---- records of sections and of entries

pub there-followed : {A : Type 0} (g : Bool) (x : A) (o : Option (List A)) → there (followed g x o) ≡ (g && there o)
unfolding followed
there-followed false x o = refl
there-followed true x none = refl
there-followed true x (some xs) = refl

-- the numbers at an index, and those behind
next : (ns : List ℕ) (at : ℕ) (k : ℕ) → at + k < length ns → drop (at + k) ns ≡ get_or ns (at + k) 0 ∷ drop (at + suc k) ns
next ns at k h =
    let e : suc (at + k) ≡ at + suc k = omega arith in
    rw (← e) (drop-cons ns (at + k) 0 h)

pub two_there : (ns : List ℕ) (at : ℕ) → at + 2 ≤ length ns → drop at ns ≡ get_or ns at 0 ∷ get_or ns (at + 1) 0 ∷ drop (at + 2) ns
two_there ns at h =
    let e : suc at ≡ at + 1 = omega arith in
    drop-cons ns at 0 (omega arith) ∙ ap (λ (l : List ℕ). get_or ns at 0 ∷ l) (rw e (next ns at 1 (omega arith)))

pub five_there : (ns : List ℕ) (at : ℕ) → at + 5 ≤ length ns
    → drop at ns ≡ get_or ns at 0 ∷ get_or ns (at + 1) 0 ∷ get_or ns (at + 2) 0 ∷ get_or ns (at + 3) 0 ∷ get_or ns (at + 4) 0 ∷ drop (at + 5) ns
five_there ns at h =
    rw (two_there ns at (omega arith), next ns at 2 (omega arith), next ns at 3 (omega arith), next ns at 4 (omega arith))

pub sections_by_records : (text : Bytes) (ns : List ℕ)
    → ByRecords ns 2 (λ m l. there (names_in text m l)) (λ at. inside text (get_or ns at 0) (get_or ns (at + 1) 0))
unfolding names_in
sections_by_records text ns = record {
  nothing = λ l. refl;
  short = short;
  more = λ m at h.
      rw (two_there ns at h)
      (there-followed (inside text (get_or ns at 0) (get_or ns (at + 1) 0)) (part text (get_or ns at 0) (get_or ns (at + 1) 0)) (names_in text m (drop (at + 2) ns)));
}
  where
    short : (m : ℕ) (l : List ℕ) → length l < 2 → there (names_in text (suc m) l) ≡ false
    short m [] h = refl
    short m (a ∷ []) h = refl
    short m (a ∷ n ∷ l) h = absurd (omega arith)

pub entries_by_records : (text : Bytes) (count : ℕ) (ns : List ℕ)
    → ByRecords ns 5 (λ m l. there (entries_in text count m l)) (good_entry text count ns)
unfolding entries_in
entries_by_records text count ns = record {
  nothing = λ l. refl;
  short = short;
  more = λ m at h.
      rw (five_there ns at h) (there-followed (good_entry text count ns at) (entry_of text ns at) (entries_in text count m (drop (at + 5) ns)));
}
  where
    short : (m : ℕ) (l : List ℕ) → length l < 5 → there (entries_in text count (suc m) l) ≡ false
    short m [] h = refl
    short m (i ∷ []) h = refl
    short m (i ∷ a ∷ []) h = refl
    short m (i ∷ a ∷ n ∷ []) h = refl
    short m (i ∷ a ∷ n ∷ b ∷ []) h = refl
    short m (i ∷ a ∷ n ∷ b ∷ k ∷ l) h = absurd (omega arith)
