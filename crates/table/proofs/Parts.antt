-- The parts of a line: at the first byte c or before a last byte it is cut in two, and put together again; blanks that
-- trimming takes stand beside what is left.
use Rattle.std.proofs.Common.{◌≡◌, ℕ, Bool, true, not, eqb, [], ◌∷◌, ◌++◌, refl, ap, eq-eqb, eqb-true}
use Rattle.lines.specs.Bytes.{Bytes, blank, all, any}
use Rattle.lines.specs.Trim.{trim_start, trim_end}
use Rattle.lines.proofs.Bools.{by_cases, and_left, and_right, not_true, impossible}
use Rattle.lines.proofs.Trimming.{trim_end-tail}
use Rattle.table.specs.LineKinds.{one_or_more, ends_with, without_last, before, behind}

-- ---- the first byte c

-- a line with such a byte is what stands before it, the byte, and what stands behind it
pub parted : (c : ℕ) (l : Bytes) → any (λ b. eqb b c) l ≡ true → l ≡ before c l ++ c ∷ behind c l
unfolding any before behind
parted c [] h = impossible h
parted c (b ∷ bs) h =
    by_cases (eqb b c)
    (λ e. rw e (ap (λ (x : ℕ). x ∷ bs) (eqb-true b c e)))
    (λ e. rw e (ap (λ (l : Bytes). b ∷ l) (parted c bs (rw e at h))))

-- and where the first part has none, the parts come back
module _ (c : ℕ) where
  pub any_made : (a b : Bytes) → any (λ d. eqb d c) (a ++ c ∷ b) ≡ true
  unfolding any
  any_made [] b = rw (eq-eqb c c refl)
  any_made (x ∷ a) b = by_cases (eqb x c) (λ e. rw e) (λ e. rw e (any_made a b))

  pub before_made : (a b : Bytes) → all (λ d. not (eqb d c)) a ≡ true → before c (a ++ c ∷ b) ≡ a
  unfolding all before
  before_made [] b h = rw (eq-eqb c c refl)
  before_made (x ∷ a) b h =
      rw (not_true (eqb x c) (and_left (not (eqb x c)) (all (λ d. not (eqb d c)) a) h))
      (ap (λ (l : Bytes). x ∷ l) (before_made a b (and_right (not (eqb x c)) (all (λ d. not (eqb d c)) a) h)))

  pub behind_made : (a b : Bytes) → all (λ d. not (eqb d c)) a ≡ true → behind c (a ++ c ∷ b) ≡ b
  unfolding all behind
  behind_made [] b h = rw (eq-eqb c c refl)
  behind_made (x ∷ a) b h =
      rw (not_true (eqb x c) (and_left (not (eqb x c)) (all (λ d. not (eqb d c)) a) h))
      (behind_made a b (and_right (not (eqb x c)) (all (λ d. not (eqb d c)) a) h))

-- ---- the last byte

pub last_parted : (c : ℕ) (l : Bytes) → ends_with c l ≡ true → l ≡ without_last l ++ c ∷ []
unfolding ends_with without_last
last_parted c [] h = impossible h
last_parted c (b ∷ []) h = ap (λ (x : ℕ). x ∷ []) (eqb-true b c h)
last_parted c (b ∷ d ∷ ds) h = ap (λ (l : Bytes). b ∷ l) (last_parted c (d ∷ ds) h)

pub ends_with_made : (c : ℕ) (l : Bytes) → ends_with c (l ++ c ∷ []) ≡ true
unfolding ends_with
ends_with_made c [] = eq-eqb c c refl
ends_with_made c (b ∷ []) = eq-eqb c c refl
ends_with_made c (b ∷ d ∷ ds) = ends_with_made c (d ∷ ds)

pub without_last_made : (c : ℕ) (l : Bytes) → without_last (l ++ c ∷ []) ≡ l
unfolding without_last
without_last_made c [] = refl
without_last_made c (b ∷ []) = refl
without_last_made c (b ∷ d ∷ ds) = ap (λ (l : Bytes). b ∷ l) (without_last_made c (d ∷ ds))

-- ---- one or more

pub one_or_more-all : (p : ℕ → Bool) (l : Bytes) → one_or_more p l ≡ true → all p l ≡ true
unfolding one_or_more
one_or_more-all p [] h = impossible h
one_or_more-all p (b ∷ bs) h = h

-- ---- blanks

-- those that go at the end stand behind what is left
pub end_blanks : (l : Bytes) → (a : Bytes) × (l ≡ trim_end l ++ a) × (all blank a ≡ true)
unfolding trim_end
end_blanks [] = ([], refl, unfold all in refl)
end_blanks (b ∷ bs) =
    let r : (a : Bytes) × (bs ≡ trim_end bs ++ a) × (all blank a ≡ true) = end_blanks bs in
    by_cases (all blank (b ∷ bs))
    (λ e. rw e (b ∷ bs, refl, e))
    (λ e. rw e (r.0, ap (λ (l : Bytes). b ∷ l) r.1, r.2))

-- those that go at the start stand before it
pub start_blanks : (l : Bytes) → (a : Bytes) × (l ≡ a ++ trim_start l) × (all blank a ≡ true)
unfolding trim_start all
start_blanks [] = ([], refl, refl)
start_blanks (b ∷ bs) =
    let r : (a : Bytes) × (bs ≡ a ++ trim_start bs) × (all blank a ≡ true) = start_blanks bs in
    by_cases (blank b)
    (λ e. rw e (b ∷ r.0, ap (λ (l : Bytes). b ∷ l) r.1, rw e r.2))
    (λ e. rw e ([], refl, refl))

-- what a line without blanks at its end ends with has none there either
pub trim_end-behind : (a b : Bytes) → trim_end (a ++ b) ≡ a ++ b → trim_end b ≡ b
trim_end-behind [] b h = h
trim_end-behind (x ∷ a) b h = trim_end-behind a b (trim_end-tail x (a ++ b) h)
