-- What is left of a list from an index on, by its first element: each definition that goes over a list, at the
-- index of a loop.
use mathlib.Core.Path.{◌≡◌}
use Prim.Native.Nat.{ℕ, ◌+◌, ◌-◌, ◌<◌}
use mathlib.Core.Bool.{◌&&◌}
use mathlib.Core.List.{List, ◌∷◌}
use lib.ListN.{length, take, drop, get_or}
use lib.Dec.{leb}
use Rattle.lines.specs.Bytes.{Bytes}
use Rattle.lines.proofs.Slices.{opened}
use Rattle.items.specs.Write.{ends_fit, cut_from, last_end}

module _ (l : List ℕ) (i : ℕ) (h : i < length l) where
  pub fit_here : (at n : ℕ)
      → ends_fit at n (drop i l) ≡ (leb at (get_or l i 0) && leb (get_or l i 0) n && ends_fit (get_or l i 0) n (drop (i + 1) l))
  unfolding ends_fit
  fit_here at n = rw (opened l i h)

  pub cut_here : (at : ℕ) (bs : Bytes)
      → cut_from at bs (drop i l) ≡ take (get_or l i 0 - at) (drop at bs) ∷ cut_from (get_or l i 0) bs (drop (i + 1) l)
  unfolding cut_from
  cut_here at bs = rw (opened l i h)

  pub last_here : (at : ℕ) → last_end at (drop i l) ≡ last_end (get_or l i 0) (drop (i + 1) l)
  last_here at = rw (opened l i h)
