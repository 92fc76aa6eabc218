-- The longest well-formed start ends where no character stands: the laws of a pass from character to
-- character.
use mathlib.Core.Path.{◌≡◌, refl, sym, ap, ◌∙◌}
use Prim.Native.Nat.{ℕ, zero, suc, ◌+◌, ◌≤◌, zero-le, suc-le-suc}
use native.Mathlib.Omega.{arith}
use native.Mathlib.Nat.{add-zero, add-suc}
use mathlib.Core.Bool.{true, false}
use mathlib.Core.List.{[], ◌∷◌, ◌++◌, append-nil}
use lib.ListN.{length, take, drop, length-append, take-append-drop, length-drop}
use lib.Seq.{take-length, take-append-add, take-append_seam, take-add, length-take-le}
use Rattle.lines.proofs.Bools.{by_cases}
use Rattle.lines.specs.Bytes.{Bytes}
use Rattle.lines.specs.Utf8.{well, utf8, start_within, longest_start}
use Rattle.lines.specs.CharSteps.{char_length}
use Rattle.lines.proofs.Utf8Laws.{utf8_append}
use Rattle.lines.proofs.Characters.{char_nil, character, no_start}

-- ---- the longest well-formed start

pub start_no : (f : Bytes) (n : ℕ) → utf8 (take (suc n) f) ≡ false → start_within (suc n) f ≡ start_within n f
unfolding start_within
start_no f n e = rw e

pub start_yes : (f : Bytes) (n : ℕ) → utf8 (take n f) ≡ true → start_within n f ≡ n
unfolding start_within
start_yes f zero e = refl
start_yes f (suc n) e = rw e

-- it goes on behind a well-formed front
start_behind : (n : ℕ) (a r : Bytes) → utf8 a ≡ true → start_within (length a + n) (a ++ r) ≡ length a + start_within n r
unfolding start_within
start_behind zero a r u = rw add-zero (start_yes (a ++ r) (length a) (rw take-append_seam u))
start_behind (suc n) a r u =
    let e : utf8 (take (length a + suc n) (a ++ r)) ≡ utf8 (take (suc n) r) =
    ap utf8 (take-append-add a r (suc n)) ∙ utf8_append a (take (suc n) r) u in
    by_cases (utf8 (take (suc n) r))
    (λ v. start_yes (a ++ r) (length a + suc n) (e ∙ v) ∙ ap (λ k. length a + k) (sym (start_yes r (suc n) v)))
    (λ v. rw add-suc (start_no (a ++ r) (length a + n) (rw add-suc at e ∙ v) ∙ start_behind n a r u)
    ∙ ap (λ k. length a + k) (sym (start_no r n v)))

longest_start_behind : (a r : Bytes) → utf8 a ≡ true → longest_start (a ++ r) ≡ length a + longest_start r
unfolding longest_start
longest_start_behind a r u = rw length-append (start_behind (length r) a r u)

start_legal_within : (n : ℕ) (f : Bytes) → utf8 (take (start_within n f) f) ≡ true
unfolding start_within utf8 well
start_legal_within zero f = refl
start_legal_within (suc n) f =
    by_cases (utf8 (take (suc n) f))
    (λ e. ap (λ (k : ℕ). utf8 (take k f)) (start_yes f (suc n) e) ∙ e)
    (λ e. ap (λ (k : ℕ). utf8 (take k f)) (start_no f n e) ∙ start_legal_within n f)

-- it is well-formed
pub start_legal : (f : Bytes) → utf8 (take (longest_start f) f) ≡ true
unfolding longest_start
start_legal f = start_legal_within (length f) f

pub longest_start-all : (f : Bytes) → utf8 f ≡ true → longest_start f ≡ length f
unfolding longest_start
longest_start-all f u = start_yes f (length f) (rw take-length u)

-- it ends where no character stands
start_none : (n : ℕ) (b : ℕ) (bs : Bytes) → char_length (b ∷ bs) ≡ 0 → start_within n (b ∷ bs) ≡ 0
unfolding start_within
start_none zero b bs c = refl
start_none (suc n) b bs c = start_no (b ∷ bs) n (no_start n b bs c) ∙ start_none n b bs c

pub longest_start_at : (a r : Bytes) → utf8 a ≡ true → char_length r ≡ 0 → longest_start (a ++ r) ≡ length a
unfolding longest_start
longest_start_at a [] u c = rw append-nil (longest_start-all a u)
longest_start_at a (b ∷ bs) u c =
    longest_start_behind a (b ∷ bs) u ∙ ap (λ n. length a + n) (start_none (length (b ∷ bs)) b bs c) ∙ add-zero (length a)

pub longest_start_from : (t : Bytes) (i : ℕ) → i ≤ length t → utf8 (take i t) ≡ true
    → longest_start t ≡ i + longest_start (drop i t)
longest_start_from t i l u =
    ap longest_start (sym (take-append-drop i t)) ∙ longest_start_behind (take i t) (drop i t) u
    ∙ ap (λ n. n + longest_start (drop i t)) (length-take-le i t l)

-- bytes with such a place before their end are not well-formed
pub not_utf8 : (a : Bytes) (b : ℕ) (bs : Bytes) → utf8 a ≡ true → char_length (b ∷ bs) ≡ 0 → utf8 (a ++ b ∷ bs) ≡ false
not_utf8 a b bs u c =
    utf8_append a (b ∷ bs) u ∙ sym (ap utf8 (take-length (b ∷ bs))) ∙ no_start (length bs) b bs c

-- ---- from character to character

-- the character at the start is there and well-formed
pub first_fits : (t : Bytes) → char_length t ≤ length t
first_fits [] = rw char_nil zero-le
first_fits (b ∷ bs) = go (char_length (b ∷ bs)) refl
  where
    go : (n : ℕ) → char_length (b ∷ bs) ≡ n → n ≤ length (b ∷ bs)
    go zero e = zero-le
    go (suc k) e = suc-le-suc (character b bs k e).fits

pub first_legal : (t : Bytes) → utf8 (take (char_length t) t) ≡ true
unfolding utf8 well
first_legal [] = rw char_nil
first_legal (b ∷ bs) = go (char_length (b ∷ bs)) refl
  where
    go : (n : ℕ) → char_length (b ∷ bs) ≡ n → utf8 (take n (b ∷ bs)) ≡ true
    go zero e = refl
    go (suc k) e = (character b bs k e).legal

-- i bytes of f are passed, and they are well-formed
module _ (f : Bytes) (i : ℕ) (inside : i ≤ length f) (legal : utf8 (take i f) ≡ true) where
  pub more_fits : i + char_length (drop i f) ≤ length f
  more_fits = omega (arith, first_fits (drop i f), length-drop i f)

  pub more_legal : utf8 (take (i + char_length (drop i f)) f) ≡ true
  more_legal =
      rw take-add
      (utf8_append (take i f) (take (char_length (drop i f)) (drop i f)) legal ∙ first_legal (drop i f))

  pub start_ends : char_length (drop i f) ≡ 0 → longest_start f ≡ i
  start_ends e =
      ap longest_start (sym (take-append-drop i f))
      ∙ longest_start_at (take i f) (drop i f) legal e
      ∙ length-take-le i f inside
