-- The longest run of bytes that pass, at the start of a text.
use mathlib.Core.Path.{◌≡◌, refl, sym, ap, ◌∙◌}
use Prim.Native.Nat.{ℕ, suc, ◌<◌}
use native.Mathlib.Omega.{arith}
use mathlib.Core.Bool.{Bool, true, false}
use mathlib.Core.List.{[], ◌∷◌, ◌++◌, append-nil}
use lib.ListN.{length, drop, get_or}
use lib.Seq.{drop-append_seam}
use Rattle.lines.specs.Bytes.{Bytes, all}
use Rattle.lines.proofs.Bools.{by_cases, and_left, and_right, both}
use Rattle.values.specs.Spans.{longest}
use Rattle.values.specs.Steps.{SplitsAt}

pub longest-all : (p : ℕ → Bool) (t : Bytes) → all p (longest p t) ≡ true
unfolding longest all
longest-all p [] = refl
longest-all p (b ∷ bs) = by_cases (p b) (λ e. rw (e, e) (longest-all p bs)) (λ e. rw e)

pub longest_more : (p : ℕ → Bool) (b : ℕ) (bs : Bytes) → p b ≡ true → longest p (b ∷ bs) ≡ b ∷ longest p bs
unfolding longest
longest_more p b bs h = rw h

-- behind bytes that pass
pub longest_append : (p : ℕ → Bool) (a r : Bytes) → all p a ≡ true → longest p (a ++ r) ≡ a ++ longest p r
unfolding longest all
longest_append p [] r h = refl
longest_append p (b ∷ a) r h =
    rw (and_left (p b) (all p a) h) (ap (λ (l : Bytes). b ∷ l) (longest_append p a r (and_right (p b) (all p a) h)))

-- where it is as long as the text, it is the text
pub longest_whole : (p : ℕ → Bool) (t : Bytes) → length (longest p t) ≡ length t → longest p t ≡ t
unfolding longest
longest_whole p [] h = refl
longest_whole p (b ∷ bs) h =
    by_cases (p b)
    (λ e.
    let k : suc (length (longest p bs)) ≡ suc (length bs) = rw e at h in
    rw e (ap (λ (l : Bytes). b ∷ l) (longest_whole p bs (omega arith))))
    (λ e. let k : 0 ≡ suc (length bs) = rw e at h in absurd (omega arith))

-- and it is where every byte passes
pub longest_of_all : (p : ℕ → Bool) (t : Bytes) → all p t ≡ true → longest p t ≡ t
unfolding longest
longest_of_all p t h = ap (longest p) (sym (append-nil t)) ∙ longest_append p t [] h ∙ append-nil t

-- ---- a text cut behind its longest run

-- a run, as long as it can be, and what stands behind it
pub record Run (p : ℕ → Bool) (t front back : Bytes) : Type 0 where
  pub whole : t ≡ front ++ back
  pub front_is : front ≡ longest p t
  pub back_is : back ≡ drop (length front) t
  pub pass : all p front ≡ true

each_passes : (p : ℕ → Bool) (a : Bytes) → ((k : ℕ) → k < length a → p (get_or a k 0) ≡ true) → all p a ≡ true
unfolding all
each_passes p [] h = refl
each_passes p (b ∷ a) h = both (p b) (all p a) (h 0 (omega arith)) (each_passes p a (λ k l. h (suc k) (omega arith)))

none_passes : (p : ℕ → Bool) (r : Bytes) → (0 < length r → p (get_or r 0 0) ≡ false) → longest p r ≡ []
unfolding longest
none_passes p [] h = refl
none_passes p (b ∷ r) h = rw (h (omega arith))

-- what `split_start` gives, where it is known what its test answers
pub run_found : (p : ℕ → Bool) (passes : ℕ → Bool → Type 0) (t front back : Bytes) → SplitsAt passes t front back
    → ((b : ℕ) (r : Bool) → passes b r → r ≡ p b) → Run p t front back
run_found p passes t front back s f =
    let pass : all p front ≡ true = each_passes p front (λ k l. sym (f (get_or front k 0) true (s.passed k l))) in
    let none : longest p back ≡ [] = none_passes p back (λ l. sym (f (get_or back 0 0) false (s.stopped l))) in
    let run : longest p t ≡ front = ap (longest p) s.whole ∙ longest_append p front back pass ∙ rw none (append-nil front) in
    record {
      whole = s.whole;
      front_is = sym run;
      back_is = sym (ap (drop (length front)) s.whole ∙ drop-append_seam front back);
      pass = pass;
    }
