-- The pieces of a text, one after the other: what stands for itself, an escape, a refused escape, the end.
-- The bytes that an escape takes are passed over.
use mathlib.Core.Path.{◌≡◌, refl, ap, ◌∙◌}
use Prim.Native.Nat.{ℕ, zero, suc, ◌+◌}
use native.Mathlib.Nat.{zero-add}
use native.Mathlib.Omega.{arith}
use mathlib.Core.Bool.{true, false}
use mathlib.Core.List.{[], ◌∷◌}
use lib.ListN.{drop}
use Rattle.lines.specs.Bytes.{Bytes}
use Rattle.lines.specs.Answers.{accepted, refused}
use Rattle.items.specs.Escapes.{Escaped, escape}
use Rattle.items.specs.Pieces.{plain, escaped, backslash, pieces_from}

pub pieces_passed : (k at : ℕ) (t : Bytes) → pieces_from k at t ≡ pieces_from 0 (k + at) (drop k t)
unfolding pieces_from
pieces_passed zero at t = rw (zero-add at)
pieces_passed (suc k) at [] = refl
pieces_passed (suc k) at (b ∷ t) =
    let e : k + suc at ≡ suc k + at = omega arith in
    pieces_passed k (suc at) t ∙ ap (λ (n : ℕ). pieces_from 0 n (drop k t)) e

pub pieces_nil : (at : ℕ) → pieces_from 0 at [] ≡ []
unfolding pieces_from
pieces_nil at = refl

pub pieces-plain : (at b : ℕ) (t : Bytes) → backslash b ≡ false → pieces_from 0 at (b ∷ t) ≡ plain at b ∷ pieces_from 0 (suc at) t
unfolding pieces_from
pieces-plain at b t h = rw h

pub pieces-escape : (at b : ℕ) (t : Bytes) (e : Escaped) → backslash b ≡ true → escape at t ≡ accepted e
    → pieces_from 0 at (b ∷ t) ≡ escaped at (accepted e) ∷ pieces_from 0 (e.taken + suc at) (drop e.taken t)
unfolding pieces_from
pieces-escape at b t e h q = rw (h, q, pieces_passed e.taken (suc at) t)

pub pieces_refused : (at b : ℕ) (t : Bytes) (n p : ℕ) → backslash b ≡ true → escape at t ≡ refused n p
    → pieces_from 0 at (b ∷ t) ≡ escaped at (refused n p) ∷ []
unfolding pieces_from
pieces_refused at b t n p h q = rw (h, q)
