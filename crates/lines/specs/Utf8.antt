-- UTF-8, as RFC 3629, section 4, has it.
use Rattle.std.specs.Prelude.{ℕ, zero, suc, ◌+◌, ◌/◌, ◌%◌, Bool, true, false, ◌&&◌, cond, List, [], ◌∷◌, length, take, leb}
use Rattle.std.proofs.Math.Option.{Option, none, some}
use Rattle.lines.specs.Bytes.{Bytes, between}

-- the bytes that may stand in one place
pub data Range : Type 0 where
  range : ℕ → ℕ → Range

-- a byte in the range
abbrev pub within : Range → ℕ → Bool
within (range low high) b = between low high b

-- the RFC's UTF8-tail
abbrev pub tail : Range
tail = range 0x80 0xBF

-- a row of the RFC's list: the range of the first byte, and one for each byte after it
pub data Row : Type 0 where
  row : Range → List Range → Row

-- the list, row by row
unfoldable pub rows : List Row
rows =
    row (range 0x00 0x7F) []
    ∷ row (range 0xC2 0xDF) (tail ∷ [])
    ∷ row (range 0xE0 0xE0) (range 0xA0 0xBF ∷ tail ∷ [])
    ∷ row (range 0xE1 0xEC) (tail ∷ tail ∷ [])
    ∷ row (range 0xED 0xED) (range 0x80 0x9F ∷ tail ∷ [])
    ∷ row (range 0xEE 0xEF) (tail ∷ tail ∷ [])
    ∷ row (range 0xF0 0xF0) (range 0x90 0xBF ∷ tail ∷ tail ∷ [])
    ∷ row (range 0xF1 0xF3) (tail ∷ tail ∷ tail ∷ [])
    ∷ row (range 0xF4 0xF4) (range 0x80 0x8F ∷ tail ∷ tail ∷ [])
    ∷ []

-- what the row of a first byte asks to follow; none where no row has that first byte
unfoldable pub headed : ℕ → List Row → Option (List Range)
headed b [] = none
headed b (row r rs ∷ qs) = cond (within r b) (some rs) (headed b qs)

-- the same by the whole list
unfoldable pub heads : ℕ → Option (List Range)
unfolding headed rows
heads b = headed b rows

-- no text goes on behind a byte that begins no character
unfoldable pub after : Option (List Range) → (List Range → Bool) → Bool
after none go = false
after (some rs) go = go rs

-- one byte in each of the ranges that are still to come, and then whole characters: each is a first
-- byte of a row, followed by what that row asks
unfoldable pub well : List Range → Bytes → Bool
unfolding heads after
well [] [] = true
well (r ∷ rs) [] = false
well [] (b ∷ bs) = after (heads b) (λ rs. well rs bs)
well (r ∷ rs) (b ∷ bs) = within r b && well rs bs

-- well-formed: made of whole characters
unfoldable pub utf8 : Bytes → Bool
unfolding well
utf8 f = well [] f

-- the length of the longest well-formed start among those of at most n bytes, where there are n
unfoldable pub start_within : ℕ → Bytes → ℕ
unfolding utf8
start_within zero f = 0
start_within (suc n) f = cond (utf8 (take (suc n) f)) (suc n) (start_within n f)

-- the length of the longest well-formed start
unfoldable pub longest_start : Bytes → ℕ
unfolding start_within
longest_start f = start_within (length f) f

-- the bytes of a code point: at most 10FFFF, and none of D800 to DFFF
unfoldable pub encoded : ℕ → Bytes
encoded n =
    cond (leb n 0x7F) (n ∷ [])
    (cond (leb n 0x7FF) ((0xC0 + n / 0x40) ∷ (0x80 + n % 0x40) ∷ [])
    (cond (leb n 0xFFFF) ((0xE0 + n / 0x1000) ∷ (0x80 + (n / 0x40) % 0x40) ∷ (0x80 + n % 0x40) ∷ [])
    ((0xF0 + n / 0x40000) ∷ (0x80 + (n / 0x1000) % 0x40) ∷ (0x80 + (n / 0x40) % 0x40) ∷ (0x80 + n % 0x40) ∷ [])))
