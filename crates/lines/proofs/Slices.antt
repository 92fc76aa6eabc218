-- Parts of a slice, as the code lends them; and what is left of one at the index of a loop.
use mathlib.Core.Path.{◌≡◌, sym, ap, ◌∙◌}
use Prim.Native.Nat.{ℕ, ◌+◌, ◌-◌, ◌<◌}
use native.Mathlib.Numerals.{add-one}
use native.Mathlib.Omega.{arith}
use mathlib.Core.List.{◌∷◌, ◌++◌}
use lib.ListN.{length, take, drop, get_or, length-drop}
use lib.Seq.{take_all, take-add, drop-cons}
use Rattle.lines.specs.Bytes.{Bytes}

-- `&l[i..]` is lent as its first `length l - i` bytes: all of them
pub part_from : (i : ℕ) (l : Bytes) → take (length l - i) (drop i l) ≡ drop i l
part_from i l = take_all (length l - i) (drop i l) (omega (arith, length-drop i l))

-- the first byte of what is left at an index, with the code's `at + 1`
pub opened : (s : Bytes) (at : ℕ) → at < length s → drop at s ≡ get_or s at 0 ∷ drop (at + 1) s
opened s at h = rw add-one (drop-cons s at 0 h)

-- the part behind a front lengthens it
pub front_and_part : (i m e : ℕ) (l : Bytes) → i + m ≡ e → take e l ≡ take i l ++ take m (drop i l)
front_and_part i m e l h = ap (λ (n : ℕ). take n l) (sym h) ∙ take-add i m l
