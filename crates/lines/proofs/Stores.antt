-- Elements stored one after another, from an index on: the first n of a list stand there.
use mathlib.Core.Path.{◌≡◌, ap, ◌∙◌}
use Prim.Native.Nat.{ℕ, ◌+◌, ◌≤◌}
use native.Mathlib.Omega.{arith}
use mathlib.Core.List.{List}
use lib.ListN.{length, set, get_or}
use lib.Seq.{paste, paste-zero, paste-suc}

module _ (d l : List ℕ) (at : ℕ) (h : at + length l ≤ length d) where
  pub store_one : 1 ≤ length l → set d at (get_or l 0 0) ≡ paste d at l 1
  store_one k =
      let z : at ≡ at + 0 = omega arith in
      ap (λ (x : List ℕ). set x at (get_or l 0 0)) (paste-zero d at l) ∙ ap (λ (i : ℕ). set (paste d at l 0) i (get_or l 0 0)) z
      ∙ paste-suc d at l 0 0 (omega arith) (omega arith)

  pub store_two : 2 ≤ length l → set (set d at (get_or l 0 0)) (at + 1) (get_or l 1 0) ≡ paste d at l 2
  store_two k = rw (store_one (omega arith)) (paste-suc d at l 1 0 (omega arith) (omega arith))

  pub store_three : 3 ≤ length l → set (set (set d at (get_or l 0 0)) (at + 1) (get_or l 1 0)) (at + 2) (get_or l 2 0) ≡ paste d at l 3
  store_three k = rw (store_two (omega arith)) (paste-suc d at l 2 0 (omega arith) (omega arith))

  pub store_four : 4 ≤ length l
      → set (set (set (set d at (get_or l 0 0)) (at + 1) (get_or l 1 0)) (at + 2) (get_or l 2 0)) (at + 3) (get_or l 3 0) ≡ paste d at l 4
  store_four k = rw (store_three (omega arith)) (paste-suc d at l 3 0 (omega arith) (omega arith))

  pub store_five : 5 ≤ length l
      → set (set (set (set (set d at (get_or l 0 0)) (at + 1) (get_or l 1 0)) (at + 2) (get_or l 2 0)) (at + 3) (get_or l 3 0)) (at + 4) (get_or l 4 0)
      ≡ paste d at l 5
  store_five k = rw (store_four (omega arith)) (paste-suc d at l 4 0 (omega arith) (omega arith))
