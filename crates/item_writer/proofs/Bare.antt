-- Bare items: one that is not empty is judged byte by byte. And what std's tests on a list answer.
use mathlib.Core.Path.{◌≡◌, refl}
use Prim.Native.Nat.{ℕ, ◌<◌}
use native.Mathlib.Omega.{arith}
use mathlib.Core.Bool.{Bool, false}
use mathlib.Core.List.{[], ◌∷◌}
use lib.ListN.{length}
use Rattle.std.specs.List.{list_all, list_any}
use Rattle.lines.specs.Bytes.{Bytes, all, any}
use Rattle.items.specs.Write.{bare_byte, is_bare}

pub bare_none : (x : Bytes) → length x ≡ 0 → is_bare x ≡ false
unfolding is_bare
bare_none [] h = refl
bare_none (b ∷ bs) h = absurd (omega arith)

pub bare_some : (x : Bytes) → 0 < length x → is_bare x ≡ all bare_byte x
unfolding is_bare
bare_some [] h = absurd (omega arith)
bare_some (b ∷ bs) h = refl

-- the tests of std on a list
pub all_is : (p : ℕ → Bool) (l : Bytes) → list_all p l ≡ all p l
unfolding all
all_is p [] = refl
all_is p (b ∷ l) = rw (all_is p l)

pub any_is : (p : ℕ → Bool) (l : Bytes) → list_any p l ≡ any p l
unfolding any
any_is p [] = refl
any_is p (b ∷ l) = rw (any_is p l)
