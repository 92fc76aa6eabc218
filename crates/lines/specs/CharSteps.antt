-- Steps of the passes over bytes. No public promise cites this file.
use Rattle.std.specs.Prelude.{ℕ, suc, Bool, true, false, ◌&&◌, cond, List, [], ◌∷◌, length, get_or, drop, ltb, eqb}
use Rattle.lines.specs.Bytes.{Bytes, control}
use Rattle.lines.specs.Utf8.{Range, within, Row, row, rows}

-- the byte at index i is there and in the range
unfoldable pub in_at : Range → ℕ → Bytes → Bool
in_at r i t = ltb i (length t) && within r (get_or t i 0)

-- the bytes start with one byte in each of the ranges
unfoldable pub begins : List Range → Bytes → Bool
begins [] bs = true
begins (r ∷ rs) [] = false
begins (r ∷ rs) (b ∷ bs) = within r b && begins rs bs

-- the length of a character whose first byte asks these ranges to follow; 0 where they do not
unfoldable pub length_by : List Range → Bytes → ℕ
unfolding begins
length_by rs t = cond (begins rs (drop 1 t)) (suc (length rs)) 0

-- the length of the character at the start, by the first row that has the first byte; 0 where none stands there
unfoldable pub char_in : List Row → Bytes → ℕ
unfolding in_at length_by
char_in [] t = 0
char_in (row r rs ∷ qs) t = cond (in_at r 0 t) (length_by rs t) (char_in qs t)

-- the same by the rows of two bytes and more
unfoldable pub long_length : Bytes → ℕ
unfolding char_in rows
long_length t = char_in (drop 1 rows) t

-- the same by all rows
unfoldable pub char_length : Bytes → ℕ
unfolding char_in rows
char_length t = char_in rows t

-- ---- the check of a file

-- the line of the first control byte, 0 while there is none
abbrev pub control_after : ℕ → ℕ → ℕ → ℕ
control_after found line b = cond (eqb found 0 && control b) line found
