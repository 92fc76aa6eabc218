-- Laws of trimming. `trim_end` is taken apart at its first byte: `trim_end (b ∷ bs) ≡ keep b (trim_end bs)`.
use mathlib.Core.Path.{◌≡◌, refl, sym, ap, ◌∙◌}
use Prim.Native.Nat.{ℕ, suc, ◌≤◌, ◌<◌}
use native.Mathlib.Omega.{arith}
use mathlib.Core.Bool.{true, false, not, ◌&&◌, cond}
use mathlib.Core.List.{[], ◌∷◌, ◌++◌, append-nil, append_assoc}
use lib.ListN.{length, drop}
use native.Mathlib.Numerals.{add-one}
use Rattle.std.proofs.lemmas.Iterator.{index_from_first}
use Rattle.std.specs.List.{AllWithin, HoldsAt}
use Rattle.std.specs.Option.{MatchOption, unwrap_or}
use Rattle.std.specs.Prelude.{Option}
use Rattle.lines.specs.Bytes.{Bytes, blank, all}
use Rattle.lines.specs.Trim.{trim_start, trim_end, trimmed}
use Rattle.lines.proofs.Bools.{by_cases, and_left, and_right, and_false, not_true}

-- ---- at the start

pub trim_start-blank : (b : ℕ) (bs : Bytes) → blank b ≡ true → trim_start (b ∷ bs) ≡ trim_start bs
unfolding trim_start
trim_start-blank b bs h = rw h

pub trim_start_nonblank : (b : ℕ) (bs : Bytes) → blank b ≡ false → trim_start (b ∷ bs) ≡ b ∷ bs
unfolding trim_start
trim_start_nonblank b bs h = rw h

pub trim_start_nil : trim_start [] ≡ []
unfolding trim_start
trim_start_nil = refl

pub trim_start_idem : (l : Bytes) → trim_start (trim_start l) ≡ trim_start l
unfolding trim_start
trim_start_idem [] = refl
trim_start_idem (b ∷ bs) = by_cases (blank b) (λ e. rw e (trim_start_idem bs)) (λ e. rw (e, e))

pub length-trim_start : (l : Bytes) → length (trim_start l) ≤ length l
unfolding trim_start
length-trim_start [] = omega arith
length-trim_start (b ∷ bs) = by_cases (blank b) (λ e. rw e (omega (arith, length-trim_start bs))) (λ e. rw e (omega arith))

-- how many blanks a text starts with, and what is left behind them
unfoldable pub blanks_before : Bytes → ℕ
blanks_before [] = 0
blanks_before (b ∷ bs) = cond (blank b) (suc (blanks_before bs)) 0

trim_start_behind : (t : Bytes) → drop (blanks_before t) t ≡ trim_start t
unfolding blanks_before trim_start
trim_start_behind [] = refl
trim_start_behind (b ∷ bs) = by_cases (blank b) (λ e. rw e (trim_start_behind bs)) (λ e. rw e)

-- what is left from the first byte on that is no blank
pub trim_start_from : (t : Bytes) (r : Option ℕ) (n : ℕ)
    → MatchOption r (AllWithin (λ b. blank b ≡ true) t 0 (length t)) (λ i. (i < length t) × HoldsAt (λ b. blank b ≡ false) t i × AllWithin (λ b. blank b ≡ true) t 0 i)
    → n ≡ unwrap_or r (length t) → drop n t ≡ trim_start t
unfolding blanks_before
trim_start_from t r n m e =
    let f : blanks_before t ≡ unwrap_or r (length t) = index_from_first blanks_before (λ b. blank b ≡ false) (λ b. blank b ≡ true) refl (λ b bs h. rw h) (λ b bs h. rw (h, add-one)) t r m in
    ap (λ i. drop i t) (e ∙ sym f) ∙ trim_start_behind t

-- blanks before a text
pub trim_start_blanks : (a t : Bytes) → all blank a ≡ true → trim_start (a ++ t) ≡ trim_start t
unfolding all
trim_start_blanks [] t h = refl
trim_start_blanks (b ∷ a) t h =
    trim_start-blank b (a ++ t) (and_left (blank b) (all blank a) h) ∙ trim_start_blanks a t (and_right (blank b) (all blank a) h)

-- ---- at the end

-- a byte in front of what is left: a blank alone goes too
unfoldable pub keep : ℕ → Bytes → Bytes
keep b [] = cond (blank b) [] (b ∷ [])
keep b (c ∷ cs) = b ∷ c ∷ cs

pub trim_end_nil : trim_end [] ≡ []
unfolding trim_end
trim_end_nil = refl

pub trim_end_empty : (l : Bytes) → length l ≡ 0 → trim_end l ≡ l
trim_end_empty [] h = trim_end_nil
trim_end_empty (b ∷ bs) h = absurd (omega arith)

-- blanks alone go; otherwise the first byte stays
pub trim_end-all : (b : ℕ) (bs : Bytes) → all blank (b ∷ bs) ≡ true → trim_end (b ∷ bs) ≡ []
unfolding trim_end
trim_end-all b bs h = rw h

pub trim_end_some : (b : ℕ) (bs : Bytes) → all blank (b ∷ bs) ≡ false → trim_end (b ∷ bs) ≡ b ∷ trim_end bs
unfolding trim_end
trim_end_some b bs h = rw h

pub trim_end_cons : (b : ℕ) (bs : Bytes) → trim_end (b ∷ bs) ≡ keep b (trim_end bs)
unfolding trim_end all keep
trim_end_cons b [] = by_cases (blank b) (λ e. rw e) (λ e. rw e)
trim_end_cons b (c ∷ cs) =
    by_cases (blank c && all blank cs)
    (λ e. rw e (by_cases (blank b) (λ y. rw y) (λ y. rw y)))
    (λ e. rw (e, and_false (blank b)))

pub keep_nonblank : (b : ℕ) (bs : Bytes) → blank b ≡ false → keep b bs ≡ b ∷ bs
unfolding keep
keep_nonblank b [] h = rw h
keep_nonblank b (c ∷ cs) h = refl

pub trim_end-blank : (l : Bytes) (b : ℕ) → blank b ≡ true → trim_end (l ++ b ∷ []) ≡ trim_end l
unfolding keep
trim_end-blank [] b h = trim_end_cons b [] ∙ rw (trim_end_nil, h)
trim_end-blank (a ∷ l) b h = trim_end_cons a (l ++ b ∷ []) ∙ rw (trim_end-blank l b h) (sym (trim_end_cons a l))

-- blanks behind a text
pub trim_end_blanks : (a t : Bytes) → all blank a ≡ true → trim_end (t ++ a) ≡ trim_end t
unfolding all
trim_end_blanks [] t h = rw append-nil
trim_end_blanks (b ∷ a) t h =
    ap trim_end (sym (append_assoc t (b ∷ []) a))
    ∙ trim_end_blanks a (t ++ b ∷ []) (and_right (blank b) (all blank a) h)
    ∙ trim_end-blank t b (and_left (blank b) (all blank a) h)

pub trim_end_space : (l : Bytes) → trim_end (l ++ 0x20 ∷ []) ≡ trim_end l
trim_end_space l = trim_end-blank l 0x20 refl

-- what stands before a rest that is not all blanks stays whole
pub trim_end_front : (a b : Bytes) (c : ℕ) (cs : Bytes) → trim_end b ≡ c ∷ cs → trim_end (a ++ b) ≡ a ++ trim_end b
unfolding keep
trim_end_front [] b c cs h = refl
trim_end_front (x ∷ []) b c cs h = trim_end_cons x b ∙ rw h
trim_end_front (x ∷ y ∷ a) b c cs h = trim_end_cons x (y ∷ a ++ b) ∙ rw (trim_end_front (y ∷ a) b c cs h)

-- a list that ends with no blank
pub trim_end_last : (l : Bytes) (b : ℕ) → blank b ≡ false → trim_end (l ++ b ∷ []) ≡ l ++ b ∷ []
trim_end_last l b h =
    let e : trim_end (b ∷ []) ≡ b ∷ [] = trim_end_cons b [] ∙ rw trim_end_nil (keep_nonblank b [] h) in
    trim_end_front l (b ∷ []) b [] e ∙ rw e

pub trim_end_nonblank : (l : Bytes) → all (λ b. not (blank b)) l ≡ true → trim_end l ≡ l
unfolding all
trim_end_nonblank [] h = trim_end_nil
trim_end_nonblank (b ∷ bs) h =
    let y : not (blank b) ≡ true = and_left (not (blank b)) (all (λ b. not (blank b)) bs) h in
    let e : trim_end bs ≡ bs = trim_end_nonblank bs (and_right (not (blank b)) (all (λ b. not (blank b)) bs) h) in
    trim_end_cons b bs ∙ rw e (keep_nonblank b bs (not_true (blank b) y))

-- a list without blanks at its end has none at the end of its rest
pub trim_end-tail : (b : ℕ) (bs : Bytes) → trim_end (b ∷ bs) ≡ b ∷ bs → trim_end bs ≡ bs
unfolding keep
trim_end-tail b bs h = go (trim_end bs) refl (sym (trim_end_cons b bs) ∙ h)
  where
    go : (r : Bytes) → trim_end bs ≡ r → keep b r ≡ b ∷ bs → trim_end bs ≡ bs
    go [] e k =
        by_cases (blank b)
        (λ y. let z : ◌≡◌ {A = Bytes} [] (b ∷ bs) = rw y at k in cc)
        (λ y. let z : b ∷ [] ≡ b ∷ bs = rw y at k in cc)
    go (c ∷ cs) e k = cc

pub trim_end_idem : (l : Bytes) → trim_end (trim_end l) ≡ trim_end l
unfolding keep
trim_end_idem [] = rw (trim_end_nil, trim_end_nil)
trim_end_idem (b ∷ bs) = rw (trim_end_cons b bs) (go (trim_end bs) (trim_end_idem bs))
  where
    go : (r : Bytes) → trim_end r ≡ r → trim_end (keep b r) ≡ keep b r
    go [] h = by_cases (blank b) (λ e. rw e trim_end_nil) (λ e. rw e (trim_end_last [] b e))
    go (c ∷ cs) h = trim_end_front (b ∷ []) (c ∷ cs) c cs h ∙ rw h

length_keep : (b : ℕ) (r : Bytes) → length (keep b r) ≤ suc (length r)
unfolding keep
length_keep b [] = by_cases (blank b) (λ e. rw e (omega arith)) (λ e. rw e (omega arith))
length_keep b (c ∷ cs) = omega arith

pub length-trim_end : (l : Bytes) → length (trim_end l) ≤ length l
length-trim_end [] = rw trim_end_nil (omega arith)
length-trim_end (b ∷ bs) = rw (trim_end_cons b bs) (omega (arith, length_keep b (trim_end bs), length-trim_end bs))

-- ---- at both ends

-- neither end's trimming undoes the other's
pub trim_end-trim_start : (l : Bytes) → trim_end l ≡ l → trim_end (trim_start l) ≡ trim_start l
unfolding trim_start
trim_end-trim_start [] h = h
trim_end-trim_start (b ∷ bs) h = by_cases (blank b) (λ e. rw e (trim_end-trim_start bs (trim_end-tail b bs h))) (λ e. rw e h)

pub trim_start-trim_end : (l : Bytes) → trim_start (trim_end (trim_start l)) ≡ trim_end (trim_start l)
trim_start-trim_end [] = rw (trim_start_nil, trim_end_nil) trim_start_nil
trim_start-trim_end (b ∷ bs) =
    by_cases (blank b)
    (λ e. rw (trim_start-blank b bs e) (trim_start-trim_end bs))
    (λ e. rw (trim_start_nonblank b bs e, trim_end_cons b bs, keep_nonblank b (trim_end bs) e) (trim_start_nonblank b (trim_end bs) e))

pub trimmed_both : (l : Bytes) → trimmed l ≡ trim_end (trim_start l)
unfolding trimmed
trimmed_both l = refl

-- no blank is left at the start
pub trimmed_start : (l : Bytes) → trim_start (trimmed l) ≡ trimmed l
unfolding trimmed
trimmed_start l = trim_start-trim_end l

pub trim_idem : (l : Bytes) → trimmed (trimmed l) ≡ trimmed l
unfolding trimmed
trim_idem l = rw (trim_start-trim_end l) (trim_end_idem (trim_start l))

pub length_trim : (l : Bytes) → length (trimmed l) ≤ length l
unfolding trimmed
length_trim l = omega (arith, length-trim_end (trim_start l), length-trim_start l)

-- ---- a step of a loop over a text
