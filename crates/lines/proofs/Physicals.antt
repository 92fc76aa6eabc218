-- Physical lines, one after the other: the bytes before the first LF are the first line.
use mathlib.Core.Path.{◌≡◌, refl, sym, ap, ◌∙◌, subst}
use Prim.Native.Nat.{ℕ, suc, ◌+◌, ◌≤◌, ◌<◌}
use native.Mathlib.Omega.{arith}
use native.Mathlib.Nat.{add-zero}
use mathlib.Core.Bool.{true, false, not, ◌||◌}
use mathlib.Core.Option.{none, some}
use mathlib.Core.List.{[], ◌∷◌, ◌++◌}
use lib.ListN.{length, take, drop, get_or, take-append-drop}
use lib.Seq.{take_all, length-take-le}
use lib.Dec.{eqb}
use borrow.Author.Tests.{eqb-true}
use Rattle.lines.specs.Laws.{no_lf}
use Rattle.lines.specs.Bytes.{Bytes, blank, is_lf, all, line_feeds}
use Rattle.lines.specs.Lines.{Line, prepend, physical, comment}
use Rattle.std.specs.Prelude.{Some, None, slice_get}
use Rattle.lines.specs.LineSteps.{line_length}
use Rattle.lines.proofs.Bools.{by_cases, and_left, and_right, not_true}

-- the line of number n and bytes l that starts at offset a and is ended by LF
abbrev pub shut_line : ℕ → ℕ → Bytes → Line
shut_line n a l = record { number = n; bytes = l; end = some (suc (a + length l)) }

-- the same, ended by the file's end
abbrev pub open_line : ℕ → Bytes → Line
open_line n l = record { number = n; bytes = l; end = none }

-- a line with its LF, and what follows
pub physical_cons : (l rest : Bytes) (n a : ℕ) → no_lf l ≡ true
    → physical n a (l ++ 0x0A ∷ rest) ≡ shut_line n a l ∷ physical (suc n) (suc (a + length l)) rest
unfolding physical no_lf all prepend
physical_cons [] rest n a h = rw add-zero
physical_cons (b ∷ bs) rest n a h =
    let e : suc a + length bs ≡ a + suc (length bs) = omega arith in
    rw (
      not_true (is_lf b) (and_left (not (is_lf b)) (no_lf bs) h),
      physical_cons bs rest n (suc a) (and_right (not (is_lf b)) (no_lf bs) h),
      e,
    )

-- a last line without LF
pub physical_last : (b : ℕ) (bs : Bytes) (n a : ℕ) → no_lf (b ∷ bs) ≡ true → physical n a (b ∷ bs) ≡ open_line n (b ∷ bs) ∷ []
unfolding physical no_lf all prepend
physical_last b [] n a h = rw (not_true (is_lf b) (and_left (not (is_lf b)) true h))
physical_last b (c ∷ cs) n a h =
    rw (not_true (is_lf b) (and_left (not (is_lf b)) (no_lf (c ∷ cs)) h))
    (ap (prepend n b) (physical_last c cs n (suc a) (and_right (not (is_lf b)) (no_lf (c ∷ cs)) h)))

-- ---- cut into physical lines

-- bytes cut into physical lines: the shape by which laws go from line to line
pub data Cut : Bytes → Type 0 where
  nothing : Cut []
  last : (b : ℕ) (bs : Bytes) → no_lf (b ∷ bs) ≡ true → Cut (b ∷ bs)
  more : (l rest : Bytes) → no_lf l ≡ true → Cut rest → Cut (l ++ 0x0A ∷ rest)

cut_cons : (b : ℕ) (bs : Bytes) → is_lf b ≡ false → Cut bs → Cut (b ∷ bs)
unfolding no_lf all
cut_cons b bs e nothing = last b [] (rw e)
cut_cons b bs e (last c cs h) = last b (c ∷ cs) (rw e h)
cut_cons b bs e (more l rest h k) = more (b ∷ l) rest (rw e h) k

pub cut : (bs : Bytes) → Cut bs
unfolding no_lf all
cut [] = nothing
cut (b ∷ bs) = by_cases (is_lf b) (λ e. lf (cut bs) e) (λ e. cut_cons b bs e (cut bs))
  where
    lf : Cut bs → is_lf b ≡ true → Cut (b ∷ bs)
    lf k e = subst (λ (x : ℕ). Cut (x ∷ bs)) (sym (eqb-true b 0x0A e)) (more [] bs refl k)

-- ---- how many LFs

pub line_feeds_none : (l : Bytes) → no_lf l ≡ true → line_feeds l ≡ 0
unfolding no_lf all line_feeds
line_feeds_none [] h = refl
line_feeds_none (b ∷ bs) h =
    rw (not_true (is_lf b) (and_left (not (is_lf b)) (no_lf bs) h)) (line_feeds_none bs (and_right (not (is_lf b)) (no_lf bs) h))

-- ---- the first line by its length

pub line_length_le : (bs : Bytes) → line_length bs ≤ length bs
unfolding line_length
line_length_le [] = omega arith
line_length_le (b ∷ bs) = by_cases (is_lf b) (λ e. rw e (omega arith)) (λ e. rw e (omega (arith, line_length_le bs)))

pub line_no_lf : (bs : Bytes) → no_lf (take (line_length bs) bs) ≡ true
unfolding line_length no_lf all
line_no_lf [] = refl
line_no_lf (b ∷ bs) = by_cases (is_lf b) (λ e. rw e) (λ e. rw e (rw e (line_no_lf bs)))

-- an LF stands behind it, or nothing does
pub line_then : (bs : Bytes) → line_length bs < length bs → drop (line_length bs) bs ≡ 0x0A ∷ drop (suc (line_length bs)) bs
unfolding line_length
line_then [] h = absurd (omega arith)
line_then (b ∷ bs) h =
    by_cases (is_lf b) (λ e. rw e (ap (λ (x : ℕ). x ∷ bs) (eqb-true b 0x0A e)))
    (λ e. rw e (line_then bs (let k : suc (line_length bs) < suc (length bs) = rw e at h in omega arith)))

-- nothing else comes
pub line_alone : (bs : Bytes) → length bs ≤ line_length bs → take (line_length bs) bs ≡ bs
line_alone bs h = take_all (line_length bs) bs h

module _ (bs : Bytes) (n a : ℕ) where
  -- the first line and its LF
  pub physical_shut : line_length bs < length bs
      → physical n a bs ≡ shut_line n a (take (line_length bs) bs) ∷ physical (suc n) (suc (a + line_length bs)) (drop (suc (line_length bs)) bs)
  physical_shut h =
      let m : ℕ = line_length bs in
      let e : bs ≡ take m bs ++ 0x0A ∷ drop (suc m) bs = sym (take-append-drop m bs) ∙ ap (λ (r : Bytes). take m bs ++ r) (line_then bs h) in
      let k : length (take m bs) ≡ m = length-take-le m bs (line_length_le bs) in
      ap (physical n a) e ∙ physical_cons (take m bs) (drop (suc m) bs) n a (line_no_lf bs)
      ∙ ap (λ (j : ℕ). shut_line n a (take m bs) ∷ physical (suc n) (suc (a + j)) (drop (suc m) bs)) k

pub physical_open : (bs : Bytes) (n a : ℕ) → 0 < length bs → length bs ≤ line_length bs → physical n a bs ≡ open_line n bs ∷ []
physical_open [] n a p h = absurd (omega arith)
physical_open (b ∷ bs) n a p h = physical_last b bs n a (rw (line_alone (b ∷ bs) h) at (line_no_lf (b ∷ bs)))

-- ---- comments

-- the first byte decides, 0 standing for none
pub comment_first : (l : Bytes) → comment l ≡ (eqb (get_or l 0 0) 0x23 || eqb (get_or l 0 0) 0x3B)
unfolding comment
comment_first [] = refl
comment_first (b ∷ bs) = refl

pub comment_of : (l : Bytes) (b : ℕ) → Some b ≡ slice_get l 0 → comment l ≡ (eqb b 0x23 || eqb b 0x3B)
unfolding comment
comment_of [] b e = absurd (clash e)
  where
    clash : Some b ≡ None → ⊥
    clash q = cc
comment_of (c ∷ cs) b e = let q : c ≡ b = cc in rw q

pub comment_none : (l : Bytes) → None ≡ slice_get l 0 → comment l ≡ false
unfolding comment
comment_none [] e = refl
comment_none (b ∷ bs) e = absurd (clash e)
  where
    clash : None ≡ Some b → ⊥
    clash q = cc

-- the LF behind a line does not make it a comment
pub comment_line : (l rest : Bytes) → comment (l ++ 0x0A ∷ rest) ≡ comment l
comment_line [] rest = comment_first (0x0A ∷ rest) ∙ sym (comment_first [])
comment_line (b ∷ bs) rest = comment_first (b ∷ bs ++ 0x0A ∷ rest) ∙ sym (comment_first (b ∷ bs))

-- whatever follows it
pub no_comment : (b : ℕ) (bs : Bytes) → blank b ≡ false → eqb b 0x23 ≡ false → eqb b 0x3B ≡ false → comment (b ∷ bs) ≡ false
no_comment b bs k h c = comment_first (b ∷ bs) ∙ rw (h, c)
