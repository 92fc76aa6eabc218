-- What stands at an index of a list that a function gives; and that a list is that list, where it has such elements.
use mathlib.Core.Path.{◌≡◌, refl, sym, ap, ◌∙◌}
use Prim.Native.Nat.{ℕ, zero, suc, ◌+◌, ◌<◌, ◌≤◌}
use native.Mathlib.Omega.{arith}
use mathlib.Core.List.{List, [], ◌∷◌}
use lib.ListN.{length, drop, drop_of_length-le}
use Rattle.normal_text.specs.Steps.{listed}

module _ {A : Type 0} (f : ℕ → A) where
  listed-length : (n i : ℕ) → length (listed f n i) ≡ n
  unfolding listed
  listed-length zero i = refl
  listed-length (suc n) i = ap suc (listed-length n (suc i))

  listed_here : (i n j m : ℕ) → i < n → m ≡ i + j → drop i (listed f n j) ≡ f m ∷ drop (suc i) (listed f n j)
  unfolding listed
  listed_here i zero j m h e = absurd (omega arith)
  listed_here zero (suc n) j m h e =
      let z : j ≡ m = omega (arith, e) in
      ap (λ (x : ℕ). f x ∷ listed f n (suc j)) z
  listed_here (suc i) (suc n) j m h e = listed_here i n (suc j) m (omega arith) (omega arith)

  -- as many as are asked for
  pub all_listed : (n : ℕ) → length (listed f n 0) ≡ n
  all_listed n = listed-length n 0

  -- the one at i, and those behind it
  pub here : (n i : ℕ) → i < n → drop i (listed f n 0) ≡ f i ∷ drop (suc i) (listed f n 0)
  here n i h = listed_here i n 0 i h (omega arith)

  -- none at its end
  pub none_left : (n i : ℕ) → n ≤ i → drop i (listed f n 0) ≡ []
  none_left n i h = drop_of_length-le (listed f n 0) {i = i} (omega (arith, all_listed n))

  -- a list with these elements is that list
  listed_from : (n j : ℕ) (l : List A) → length l ≡ n → ((i : ℕ) → i < n → drop i l ≡ f (i + j) ∷ drop (suc i) l) → listed f n j ≡ l
  unfolding listed
  listed_from zero j [] e h = refl
  listed_from zero j (x ∷ l) e h = absurd (omega arith)
  listed_from (suc n) j [] e h = absurd (omega arith)
  listed_from (suc n) j (x ∷ l) e h =
      let z : 0 + j ≡ j = omega arith in
      let q : x ∷ l ≡ f j ∷ l = h 0 (omega arith) ∙ ap (λ (m : ℕ). f m ∷ l) z in
      ap (λ (r : List A). f j ∷ r) (listed_from n (suc j) l (omega arith) (λ i k. h (suc i) (omega arith) ∙ ap (λ (m : ℕ). f m ∷ drop (suc i) l) (omega arith))) ∙ sym q

  pub is_listed : (n : ℕ) (l : List A) → length l ≡ n → ((i : ℕ) → i < n → drop i l ≡ f i ∷ drop (suc i) l) → listed f n 0 ≡ l
  is_listed n l e h = listed_from n 0 l e (λ i k. h i k ∙ ap (λ (m : ℕ). f m ∷ drop (suc i) l) (omega arith))
