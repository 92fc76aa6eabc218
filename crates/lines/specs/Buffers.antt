-- What a buffer (the rules' room) holds after something was put into it.
use Rattle.std.specs.Prelude.{◌≡◌, ℕ, ◌+◌, List, ◌++◌, length, take, drop}
use Rattle.lines.specs.Bytes.{Bytes}

-- xs, which fits, at the front, and the rest as it was
abbrev pub filled : {A : Type 0} → List A → List A → List A
filled xs d = xs ++ drop (length xs) d

-- xs, which fits there, from index n on, and the rest as it was
abbrev pub put : {A : Type 0} → List A → ℕ → List A → List A
put d n xs = take n d ++ xs ++ drop (n + length xs) d

-- bytes were put into a buffer from an index on; r is the index behind them
pub record Puts (buffer : Bytes) (at : ℕ) (xs : Bytes) (r : ℕ) (buffer' : Bytes) : Type 0 where
  pub behind : r ≡ at + length xs
  pub after : buffer' ≡ put buffer at xs
