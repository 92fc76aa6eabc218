-- Lists: what holds of all elements, and sums over them.
use mathlib.Core.Path.{◌≡◌, refl}
use Prim.Native.Nat.{ℕ, ◌+◌}
use native.Mathlib.Omega.{arith}
use mathlib.Core.List.{List, [], ◌∷◌, ◌++◌}
use lib.ListN.{length}
use Rattle.lines.specs.Laws.{All}

-- the sum of what `w` says of each element
abbrev pub sum : {A : Type 0} → (A → ℕ) → List A → ℕ
sum w [] = 0
sum w (x ∷ xs) = w x + sum w xs

module _ {A : Type 0} where
  pub all_both : (P Q : A → Type 0) (l : List A) → All P l → All Q l → All (λ x. P x × Q x) l
  all_both P Q [] h k = tt
  all_both P Q (x ∷ l) h k = ((h.0, k.0), all_both P Q l h.1 k.1)

  pub all_join : (P : A → Type 0) (a b : List A) → All P a → All P b → All P (a ++ b)
  all_join P [] b h k = k
  all_join P (x ∷ a) b h k = (h.0, all_join P a b h.1 k)

  pub sum_snoc : (w : A → ℕ) (l : List A) (x : A) → sum w (l ++ x ∷ []) ≡ sum w l + w x
  sum_snoc w [] x = omega arith
  sum_snoc w (y ∷ l) x = omega (arith, sum_snoc w l x)

  -- one for each
  pub sum_ones : (l : List A) → sum (λ x. 1) l ≡ length l
  sum_ones [] = refl
  sum_ones (x ∷ l) = omega (arith, sum_ones l)

  pub sum_same : (v w : A → ℕ) → ((x : A) → v x ≡ w x) → (l : List A) → sum v l ≡ sum w l
  sum_same v w e [] = refl
  sum_same v w e (x ∷ l) = omega (arith, e x, sum_same v w e l)
