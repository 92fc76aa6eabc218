-- What holds of every unit holds of the one that is found.
use mathlib.Core.Path.{◌≡◌, refl, sym, subst, ◌∙◌}
use Prim.Native.Nat.{ℕ, ◌<◌}
use native.Mathlib.Omega.{arith}
use mathlib.Core.Bool.{true, cond}
use mathlib.Core.Option.{none, some}
use mathlib.Core.List.{List, [], ◌∷◌}
use lib.ListN.{length}
use Rattle.lines.specs.Bytes.{Bytes, letter, all, equal}
use Rattle.lines.specs.Laws.{All}
use Rattle.lines.proofs.Bools.{by_cases, clash, equal_eq}
use Rattle.values.specs.Spans.{TimeUnit, units, scale_in}

-- the first unit, or one of the others
pub scale_cons : (u : TimeUnit) (us : List TimeUnit) (n : Bytes)
    → scale_in (u ∷ us) n ≡ cond (equal n u.name) (some u.scale) (scale_in us n)
unfolding scale_in
scale_cons u us n = refl

pub scale_nil : (n : Bytes) → scale_in [] n ≡ none
unfolding scale_in
scale_nil n = refl

pub scale_found : (P : Bytes → ℕ → Type 0) (us : List TimeUnit) → All (λ (u : TimeUnit). P u.name u.scale) us
    → (n : Bytes) (s : ℕ) → scale_in us n ≡ some s → P n s
scale_found P [] k n s h = let z : none ≡ some s = sym (scale_nil n) ∙ h in clash (cc)
scale_found P (u ∷ us) k n s h =
    let f = sym (scale_cons u us n) ∙ h in
    by_cases (equal n u.name)
    (λ e.
    let z : some u.scale ≡ some s = rw e at f in
    let y : u.scale ≡ s = cc in
    subst (P n) y (subst (λ (m : Bytes). P m u.scale) (sym (equal_eq n u.name e)) k.0))
    (λ e. scale_found P us k.1 n s (rw e at f))

-- a unit's name is made of letters
pub scale_letters : (n : Bytes) (s : ℕ) → scale_in units n ≡ some s → all letter n ≡ true
unfolding all
scale_letters = scale_found (λ n s. all letter n ≡ true) units (refl, (refl, (refl, (refl, (refl, (refl, (refl, tt)))))))

-- it has a microsecond or more
pub scale_positive : (n : Bytes) (s : ℕ) → scale_in units n ≡ some s → 0 < s
scale_positive = scale_found (λ n s. 0 < s) units
    (omega arith, (omega arith, (omega arith, (omega arith, (omega arith, (omega arith, (omega arith, tt)))))))

-- its name has a letter or more
pub some_letter : (n : Bytes) (s : ℕ) → scale_in units n ≡ some s → 0 < length n
some_letter = scale_found (λ n s. 0 < length n) units
    (omega arith, (omega arith, (omega arith, (omega arith, (omega arith, (omega arith, (omega arith, tt)))))))
