-- The character at the start of bytes: what `char_length` says of it by the rows, and that its bytes are
-- there, well-formed, and 80 or above after the first.
use mathlib.Core.Path.{◌≡◌, refl, sym, ap, ◌∙◌}
use Prim.Native.Nat.{ℕ, zero, suc, ◌≤◌, ◌<◌, zero-le, suc-le-suc}
use native.Mathlib.Omega.{arith}
use native.Mathlib.Numerals.{add-one}
use mathlib.Core.Bool.{Bool, true, false, ◌&&◌, cond}
use mathlib.Core.Option.{Option, none, some}
use mathlib.Core.List.{List, [], ◌∷◌}
use lib.ListN.{length, take, drop, get_or}
use lib.Seq.{drop-drop, drop-cons}
use lib.Dec.{leb, leb-suc-suc}
use borrow.Author.Tests.{leb-true, le-leb, lt-leb, le-ltb, lt-ltb}
use Rattle.lines.specs.Bytes.{Bytes, all, between}
use Rattle.lines.specs.Utf8.{Range, range, within, Row, row, rows, headed, heads, after, well, utf8}
use Rattle.lines.specs.CharSteps.{in_at, begins, length_by, char_in, long_length, char_length}
use Rattle.lines.proofs.Bools.{by_cases, and_left, and_right, both, impossible}
use Rattle.lines.proofs.Utf8Laws.{heads_high, high, high_after, high_byte}

-- ---- the character at the start, by the rows

-- the first of these rows has the first byte
unfoldable pub has_first : List Row → Bytes → Bool
has_first [] t = false
has_first (row r rs ∷ qs) t = in_at r 0 t

-- what the first of these rows asks to follow
unfoldable pub follows : List Row → List Range
follows [] = []
follows (row r rs ∷ qs) = rs

row_left : (qs : List Row) (t : Bytes) → has_first qs t ≡ false → char_in qs t ≡ char_in (drop 1 qs) t
unfolding char_in has_first
row_left [] t e = refl
row_left (row r rs ∷ qs) t e = rw e

row_taken : (qs : List Row) (t : Bytes) → has_first qs t ≡ true → char_in qs t ≡ length_by (follows qs) t
unfolding char_in has_first follows
row_taken [] t e = impossible e
row_taken (row r rs ∷ qs) t e = rw e

-- the row of one byte has the first byte, or those of more decide
pub one_byte : (t : Bytes) → in_at (range 0x00 0x7F) 0 t ≡ true → char_length t ≡ 1
unfolding char_length char_in rows length_by begins
one_byte t e = rw e

pub more_bytes : (t : Bytes) → in_at (range 0x00 0x7F) 0 t ≡ false → char_length t ≡ long_length t
unfolding char_length long_length char_in rows
more_bytes t e = rw e

-- the first byte of what stands at an index tells which
module _ (f : Bytes) (i : ℕ) (h : i < length f) where
  ascii : in_at (range 0x00 0x7F) 0 (drop i f) ≡ leb (get_or f i 0) 0x7F
  unfolding in_at
  ascii = rw (drop-cons f i 0 h, lt-ltb 0 (suc (length (drop (suc i) f))) (omega arith), le-leb 0 (get_or f i 0) zero-le)

  pub ascii_at : get_or f i 0 ≤ 0x7F → char_length (drop i f) ≡ 1
  ascii_at k = one_byte (drop i f) (ascii ∙ le-leb (get_or f i 0) 0x7F k)

  pub long_at : 0x7F < get_or f i 0 → char_length (drop i f) ≡ long_length (drop i f)
  long_at k = more_bytes (drop i f) (ascii ∙ lt-leb (get_or f i 0) 0x7F k)

-- the first k rows, of which the row of one byte is asked elsewhere, do not have the first byte: the rows from k on
-- decide
abbrev pub PastRows : ℕ → Bytes → Type 0
PastRows k t = long_length t ≡ char_in (drop k rows) t

pub past_first : (t : Bytes) → PastRows 1 t
unfolding long_length
past_first t = refl

-- the row at k has the first byte or not, as a test says
module _ (k : ℕ) (t : Bytes) (past : PastRows k t) {test : Bool} (asked : test ≡ has_first (drop k rows) t) where
  pub past_more : test ≡ false → PastRows (suc k) t
  past_more e =
      past ∙ row_left (drop k rows) t (sym asked ∙ e)
      ∙ ap (λ (qs : List Row). char_in qs t) (drop-drop 1 k rows ∙ ap (λ (n : ℕ). drop n rows) (add-one k))

  pub row_decides : {n : ℕ} → test ≡ true → n ≡ length_by (follows (drop k rows)) t → n ≡ long_length t
  row_decides e f = f ∙ sym (past ∙ row_taken (drop k rows) t (sym asked ∙ e))

-- the ranges asked one index after the other
unfoldable pub in_each : ℕ → List Range → Bytes → Bool
in_each i [] t = true
in_each i (r ∷ rs) t = in_at r i t && in_each (suc i) rs t

begins_at : (i : ℕ) (t : Bytes) (r : Range) (rs : List Range)
    → begins (r ∷ rs) (drop i t) ≡ (in_at r i t && begins rs (drop (suc i) t))
unfolding begins in_at
begins_at zero [] r rs = refl
begins_at zero (b ∷ t) r rs = rw (lt-ltb 0 (suc (length t)) (omega arith))
begins_at (suc i) [] r rs = rw (le-ltb (suc i) 0 (omega arith))
begins_at (suc i) (b ∷ t) r rs = begins_at i t r rs ∙ rw (leb-suc-suc (suc i) (length t))

begins_each : (rs : List Range) (i : ℕ) (t : Bytes) → begins rs (drop i t) ≡ in_each i rs t
unfolding begins in_each
begins_each [] i t = refl
begins_each (r ∷ rs) i t = begins_at i t r rs ∙ rw (begins_each rs (suc i) t)

pub by_index : (rs : List Range) (t : Bytes) → length_by rs t ≡ cond (in_each 1 rs t) (suc (length rs)) 0
unfolding length_by
by_index rs t = rw (begins_each rs 1 t)

-- the length of a character whose first byte asks for some ranges
unfoldable pub length_after : Option (List Range) → Bytes → ℕ
unfolding length_by
length_after none t = 0
length_after (some rs) t = length_by rs t

char_in-headed : (qs : List Row) (b : ℕ) (bs : Bytes) → char_in qs (b ∷ bs) ≡ length_after (headed b qs) (b ∷ bs)
unfolding char_in headed length_after in_at length_by
char_in-headed [] b bs = refl
char_in-headed (row r rs ∷ qs) b bs =
    rw (lt-ltb 0 (suc (length bs)) (omega arith))
    (by_cases (within r b) (λ e. rw e) (λ e. rw e (char_in-headed qs b bs)))

pub char_headed : (b : ℕ) (bs : Bytes) → char_length (b ∷ bs) ≡ length_after (heads b) (b ∷ bs)
unfolding char_length heads
char_headed b bs = char_in-headed rows b bs

pub char_nil : char_length [] ≡ 0
unfolding char_length char_in rows in_at
char_nil = refl

-- ---- no character at the start

not_begun : (n : ℕ) (bs : Bytes) (rs : List Range) → begins rs bs ≡ false → well rs (take n bs) ≡ false
unfolding begins well
not_begun n bs [] h = impossible (sym h)
not_begun zero [] (r ∷ rs) h = refl
not_begun (suc n) [] (r ∷ rs) h = refl
not_begun zero (b ∷ bs) (r ∷ rs) h = refl
not_begun (suc n) (b ∷ bs) (r ∷ rs) h =
    by_cases (within r b) (λ e. rw e (not_begun n bs rs (rw e at h))) (λ e. rw e)

-- then no start but the empty one is well-formed
pub no_start : (n : ℕ) (b : ℕ) (bs : Bytes) → char_length (b ∷ bs) ≡ 0 → utf8 (take (suc n) (b ∷ bs)) ≡ false
unfolding utf8 well length_after length_by after
no_start n b bs h = go (heads b) (sym (char_headed b bs) ∙ h)
  where
    go : (o : Option (List Range)) → length_after o (b ∷ bs) ≡ 0 → after o (λ rs. well rs (take n bs)) ≡ false
    go none k = refl
    go (some rs) k =
        by_cases (begins rs bs)
        (λ e. let z : suc (length rs) ≡ 0 = rw e at k in absurd (omega arith))
        (λ e. not_begun n bs rs e)

-- ---- a character at the start

-- its bytes are there, they are well-formed, and those after the first are 80 or above
pub record Character (b : ℕ) (bs : Bytes) (k : ℕ) : Type 0 where
  pub fits : k ≤ length bs
  pub legal : utf8 (b ∷ take k bs) ≡ true
  pub rest : all high_byte (take k bs) ≡ true

begun-fits : (rs : List Range) (bs : Bytes) → begins rs bs ≡ true → length rs ≤ length bs
unfolding begins
begun-fits [] bs h = zero-le
begun-fits (r ∷ rs) [] h = impossible h
begun-fits (r ∷ rs) (b ∷ bs) h = suc-le-suc (begun-fits rs bs (and_right (within r b) (begins rs bs) h))

begun-well : (rs : List Range) (bs : Bytes) → begins rs bs ≡ true → well rs (take (length rs) bs) ≡ true
unfolding begins well
begun-well [] bs h = refl
begun-well (r ∷ rs) [] h = impossible h
begun-well (r ∷ rs) (b ∷ bs) h =
    both (within r b) (well rs (take (length rs) bs))
    (and_left (within r b) (begins rs bs) h)
    (begun-well rs bs (and_right (within r b) (begins rs bs) h))

begun_high : (rs : List Range) (bs : Bytes) → high rs ≡ true → begins rs bs ≡ true
    → all high_byte (take (length rs) bs) ≡ true
unfolding begins high all
begun_high [] bs hr h = refl
begun_high (r ∷ rs) [] hr h = impossible h
begun_high (range low top ∷ rs) (b ∷ bs) hr h =
    let w : between low top b ≡ true = and_left (between low top b) (begins rs bs) h in
    let l : 0x80 ≤ low = leb-true 0x80 low (and_left (leb 0x80 low) (high rs) hr) in
    let k : low ≤ b = leb-true low b (and_left (leb low b) (leb b top) w) in
    both (high_byte b) (all high_byte (take (length rs) bs))
    (le-leb 0x80 b (omega arith))
    (begun_high rs bs (and_right (leb 0x80 low) (high rs) hr) (and_right (between low top b) (begins rs bs) h))

pub character : (b : ℕ) (bs : Bytes) (k : ℕ) → char_length (b ∷ bs) ≡ suc k → Character b bs k
unfolding utf8 well length_after length_by after high_after
character b bs k h = go (heads b) refl (heads_high b) (sym (char_headed b bs) ∙ h)
  where
    go : (o : Option (List Range)) → heads b ≡ o → high_after o ≡ true → length_after o (b ∷ bs) ≡ suc k → Character b bs k
    go none q hi e = absurd (omega arith)
    go (some rs) q hi e =
        by_cases (begins rs bs)
        (λ y.
        let e' : suc (length rs) ≡ suc k = rw y at e in
        let n : k ≡ length rs = omega arith in
        rw n (record { fits = begun-fits rs bs y; legal = rw q (begun-well rs bs y); rest = begun_high rs bs hi y }))
        (λ y. let z : 0 ≡ suc k = rw y at e in absurd (omega arith))
