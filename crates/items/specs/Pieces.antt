-- A text as pieces: each is a byte that stands for itself, or an escape. Quotes make no difference to that.
use Rattle.std.specs.Prelude.{ℕ, zero, suc, Bool, false, ◌||◌, cond, List, [], ◌∷◌, eqb}
use Rattle.lines.specs.Bytes.{Bytes, blank}
use Rattle.lines.specs.Answers.{Outcome, accepted, refused}
use Rattle.items.specs.Escapes.{Escaped, escape}

-- a backslash
abbrev pub backslash : ℕ → Bool
backslash b = eqb b 0x5C

-- a double or a single quote
abbrev pub quote : ℕ → Bool
quote b = eqb b 0x22 || eqb b 0x27

-- a piece and its offset, which is that of the backslash for an escape
pub data Piece : Type 0 where
  plain : (offset byte : ℕ) → Piece
  escaped : (offset : ℕ) → Outcome Escaped → Piece

-- where a piece stands
abbrev pub offset_of : Piece → ℕ
offset_of (plain at b) = at
offset_of (escaped at e) = at

-- a blank that stands for itself; an escape is never one
abbrev pub blank_piece : Piece → Bool
blank_piece (plain at b) = blank b
blank_piece (escaped at e) = false

-- the pieces behind an escape, by how many bytes it takes; none are read behind a refused one
unfoldable pub behind : Outcome Escaped → (ℕ → List Piece) → List Piece
behind (accepted e) rest = rest e.taken
behind (refused n p) rest = []

-- The pieces of a text whose first byte is at an offset. Its first k bytes belong to the escape before them.
unfoldable pub pieces_from : (k offset : ℕ) → Bytes → List Piece
unfolding escape behind
pieces_from zero at [] = []
pieces_from (suc k) at [] = []
pieces_from (suc k) at (b ∷ t) = pieces_from k (suc at) t
pieces_from zero at (b ∷ t) =
    cond (backslash b)
    (escaped at (escape at t) ∷ behind (escape at t) (λ k. pieces_from k (suc at) t))
    (plain at b ∷ pieces_from zero (suc at) t)

-- the pieces of a whole text
unfoldable pub pieces : Bytes → List Piece
unfolding pieces_from
pieces t = pieces_from 0 0 t
