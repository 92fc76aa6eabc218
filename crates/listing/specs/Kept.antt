-- What a call left of a buffer that was full of one value.
use Rattle.std.specs.Prelude.{◌≡◌, ℕ, Bool, ◌&&◌, [], ◌∷◌, drop, eqb, refl}
use Rattle.std.specs.List.{list_all}
use Rattle.std.proofs.Common.{ap}
use Rattle.lines.specs.Bytes.{Bytes, all}

-- all that stands from an index on is still this value
unfoldable pub kept : ℕ → Bytes → ℕ → Bool
kept v buffer from = all (λ (x : ℕ). eqb x v) (drop from buffer)

-- `all` in the words of std
all_list_all : (p : ℕ → Bool) (bs : Bytes) → all p bs ≡ list_all p bs
unfolding all
all_list_all p [] = refl
all_list_all p (b ∷ bs) = ap (λ r. p b && r) (all_list_all p bs)

pub kept_list_all : (v : ℕ) (buffer : Bytes) (from : ℕ) → kept v buffer from ≡ list_all (λ x. eqb x v) (drop from buffer)
unfolding kept
kept_list_all v buffer from = all_list_all (λ x. eqb x v) (drop from buffer)
