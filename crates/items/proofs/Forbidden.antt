-- The first byte that a text to split may not have, as `position` finds it.
use mathlib.Core.Path.{◌≡◌, refl, sym, ◌∙◌}
use Prim.Native.Nat.{ℕ, suc, ◌+◌, ◌≤◌, ◌<◌}
use native.Mathlib.Omega.{arith}
use mathlib.Core.Bool.{true, false}
use mathlib.Core.List.{[], ◌∷◌}
use lib.ListN.{length}
use lib.Dec.{ltb}
use borrow.Author.Tests.{ltb-true, ltb-false}
use Rattle.std.specs.Prelude.{position, Some, None}
use Rattle.std.specs.List.{position_or_len}
use Rattle.std.proofs.lemmas.List.Recursion.{is_position_or_len}
use Rattle.lines.specs.Bytes.{Bytes, any}
use Rattle.lines.proofs.Bools.{by_cases, clash, impossible}
use Rattle.items.specs.Split.{forbidden, first_forbidden}

first_is : (t : Bytes) → first_forbidden t ≡ position_or_len forbidden t
unfolding first_forbidden
first_is t =
    is_position_or_len first_forbidden forbidden refl
    (λ x xs. let e : 1 + first_forbidden xs ≡ suc (first_forbidden xs) = omega arith in rw e) t

some_there : (t : Bytes) → first_forbidden t < length t → any forbidden t ≡ true
unfolding any first_forbidden
some_there [] h = absurd (omega arith)
some_there (b ∷ t) h =
    by_cases (forbidden b) (λ e. rw e) (λ e. rw e (some_there t (let k : suc (first_forbidden t) < suc (length t) = rw e at h in omega arith)))

none_there : (t : Bytes) → length t ≤ first_forbidden t → any forbidden t ≡ false
unfolding any first_forbidden
none_there [] h = refl
none_there (b ∷ t) h =
    by_cases (forbidden b)
    (λ e. let k : suc (length t) ≤ 0 = rw e at h in absurd (omega arith))
    (λ e. rw e (none_there t (let k : suc (length t) ≤ suc (first_forbidden t) = rw e at h in omega arith)))

pub forbidden-there : (t : Bytes) (i : ℕ) → position forbidden t ≡ Some i → (any forbidden t ≡ true) × (first_forbidden t ≡ i)
forbidden-there t i h =
    let n = first_is t in
    by_cases (ltb (position_or_len forbidden t) (length t))
    (λ e. let k : Some (position_or_len forbidden t) ≡ Some i = rw e at h in
    (some_there t (omega (arith, n, ltb-true (position_or_len forbidden t) (length t) e)), n ∙ cc k))
    (λ e. let k : None ≡ Some i = rw e at h in clash (cc k))

pub none_forbidden : (t : Bytes) → position forbidden t ≡ None → any forbidden t ≡ false
none_forbidden t h =
    let n = first_is t in
    by_cases (ltb (position_or_len forbidden t) (length t))
    (λ e. let k : Some (position_or_len forbidden t) ≡ None = rw e at h in clash (cc k))
    (λ e. none_there t (omega (arith, n, ltb-false (position_or_len forbidden t) (length t) e)))

pub no_position : (t : Bytes) → any forbidden t ≡ false → position forbidden t ≡ None
no_position t h =
    let n = first_is t in
    by_cases (ltb (position_or_len forbidden t) (length t))
    (λ e. impossible (sym h ∙ some_there t (omega (arith, n, ltb-true (position_or_len forbidden t) (length t) e))))
    (λ e. rw e)
