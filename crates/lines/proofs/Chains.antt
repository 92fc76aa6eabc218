-- What iterator chains over bytes give, as the definitions say it.
use mathlib.Core.Path.{◌≡◌, refl, ap}
use Prim.Native.Nat.{ℕ, suc, ◌<◌}
use native.Mathlib.Numerals.{add-one}
use mathlib.Core.Bool.{Bool, true, false, ◌&&◌, ◌||◌}
use mathlib.Core.List.{[], ◌∷◌}
use lib.ListN.{length}
use Rattle.std.proofs.lemmas.Iterator.{index_from_first}
use Rattle.std.specs.Prelude.{Option}
use Rattle.std.specs.List.{AllWithin, HoldsAt, list_all, list_any, filter, fold}
use Rattle.std.specs.Option.{MatchOption, unwrap_or}
use Rattle.lines.specs.Bytes.{Bytes, is_lf, control, all, any, line_feeds}
use Rattle.lines.specs.Files.{first_control}
use Rattle.lines.specs.LineSteps.{line_length}
use Rattle.lines.proofs.Bools.{by_cases}

-- std's `all` and `any` are the definitions'
pub all_is : (p : ℕ → Bool) (l : Bytes) → list_all p l ≡ all p l
unfolding all
all_is p [] = refl
all_is p (b ∷ bs) = ap (λ r. p b && r) (all_is p bs)

pub any_is : (p : ℕ → Bool) (l : Bytes) → list_any p l ≡ any p l
unfolding any
any_is p [] = refl
any_is p (b ∷ bs) = ap (λ r. p b || r) (any_is p bs)

-- a test on each byte that does not stop at the first that passes
folded_from : (p : ℕ → Bool) (r : Bool) (l : Bytes) → fold (λ found b. found || p b) r l ≡ (r || any p l)
unfolding any
folded_from p false [] = refl
folded_from p true [] = refl
folded_from p true (b ∷ bs) = folded_from p true bs
folded_from p false (b ∷ bs) = folded_from p (p b) bs

pub any_folded : (p : ℕ → Bool) (l : Bytes) → fold (λ found b. found || p b) false l ≡ any p l
any_folded p l = folded_from p false l

-- how many LFs there are
pub feeds_counted : (l : Bytes) → length (filter is_lf l) ≡ line_feeds l
unfolding line_feeds
feeds_counted [] = refl
feeds_counted (b ∷ bs) = by_cases (is_lf b) (λ e. rw e (ap suc (feeds_counted bs))) (λ e. rw e (feeds_counted bs))

-- ---- the first byte that passes a test, as `position` finds it

abbrev pub FirstOf : (p : ℕ → Bool) → Bytes → Option ℕ → Type 0
FirstOf p l r =
    MatchOption r (AllWithin (λ b. p b ≡ false) l 0 (length l)) (λ i. (i < length l) × HoldsAt (λ b. p b ≡ true) l i × AllWithin (λ b. p b ≡ false) l 0 i)

-- the first LF
pub line_length_is : (l : Bytes) (r : Option ℕ) → FirstOf is_lf l r → line_length l ≡ unwrap_or r (length l)
unfolding line_length
line_length_is l r f = index_from_first line_length (λ b. is_lf b ≡ true) (λ b. is_lf b ≡ false) refl (λ b bs h. rw h) (λ b bs h. rw (h, add-one)) l r f

-- the first control byte
pub first_control_is : (l : Bytes) (r : Option ℕ) → FirstOf control l r → first_control l ≡ unwrap_or r (length l)
unfolding first_control
first_control_is l r f = index_from_first first_control (λ b. control b ≡ true) (λ b. control b ≡ false) refl (λ b bs h. rw h) (λ b bs h. rw (h, add-one)) l r f
