-- `equal` is std's comparison of two lists.
use mathlib.Core.Path.{◌≡◌, refl, ap}
use mathlib.Core.Bool.{◌&&◌}
use mathlib.Core.List.{[], ◌∷◌}
use lib.Dec.{eqb}
use lib.Pointwise.{pointwise}
use Rattle.lines.specs.Bytes.{Bytes, equal}

pub pointwise_equal : (a b : Bytes) → pointwise eqb a b ≡ equal a b
unfolding equal
pointwise_equal [] [] = refl
pointwise_equal [] (c ∷ cs) = refl
pointwise_equal (b ∷ bs) [] = refl
pointwise_equal (b ∷ bs) (c ∷ cs) = ap (λ r. eqb b c && r) (pointwise_equal bs cs)
