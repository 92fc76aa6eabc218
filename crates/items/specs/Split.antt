-- The items of a text, or the first refusal met reading from the left.
use Rattle.std.specs.Prelude.{ℕ, zero, suc, ◌+◌, Bool, not, ◌&&◌, ◌||◌, cond, List, [], ◌∷◌, ◌++◌, length, eqb, ltb}
use Rattle.lines.specs.Bytes.{Bytes, between, blank, any}
use Rattle.lines.specs.Answers.{Outcome, accepted, refused}
use Rattle.items.specs.Escapes.{Escaped}
use Rattle.items.specs.Pieces.{Piece, plain, escaped, offset_of, blank_piece, quote, pieces}

-- ---- one item

-- what a reading step finds: an item and the pieces behind it, the end, or a refusal with its place
pub data Step : Type 0 where
  item : Bytes → List Piece → Step
  end : Step
  refusal : (number place : ℕ) → Step

-- bytes that stand before the rest of an item
unfoldable pub with_bytes : Bytes → Step → Step
with_bytes bs (item cs ps) = item (bs ++ cs) ps
with_bytes bs end = end
with_bytes bs (refusal n p) = refusal n p

-- an escape before the rest of an item: its bytes, or its refusal
unfoldable pub with_escape : Outcome Escaped → Step → Step
unfolding with_bytes
with_escape (accepted e) s = with_bytes e.bytes s
with_escape (refused n p) s = refusal n p

-- The rest of a bare item: a blank or the end parts it from what follows. A quote in it is 22.
unfoldable pub bare_item : List Piece → Step
unfolding with_bytes with_escape
bare_item [] = item [] []
bare_item (plain at b ∷ ps) =
    cond (blank b) (item [] (plain at b ∷ ps))
    (cond (quote b) (refusal 22 at)
    (with_bytes (b ∷ []) (bare_item ps)))
bare_item (escaped at e ∷ ps) = with_escape e (bare_item ps)

-- behind a closing quote: a blank or the end has to follow, and anything else is 22
unfoldable pub closed_item : List Piece → Step
closed_item [] = item [] []
closed_item (p ∷ ps) = cond (blank_piece p) (item [] (p ∷ ps)) (refusal 22 (offset_of p))

-- The rest of an item in quotes: the same quote closes it, and the other kind is data. Where the text ends
-- first, it is 23 at the opening quote.
unfoldable pub quoted_item : (kind opening : ℕ) → List Piece → Step
unfolding with_bytes with_escape closed_item
quoted_item q o [] = refusal 23 o
quoted_item q o (plain at b ∷ ps) = cond (eqb b q) (closed_item ps) (with_bytes (b ∷ []) (quoted_item q o ps))
quoted_item q o (escaped at e ∷ ps) = with_escape e (quoted_item q o ps)

-- the item that begins with a piece; a quote opens only here
unfoldable pub item_at : Piece → List Piece → Step
unfolding bare_item quoted_item
item_at (plain at b) ps = cond (quote b) (quoted_item b at ps) (bare_item (plain at b ∷ ps))
item_at (escaped at e) ps = bare_item (escaped at e ∷ ps)

-- ---- a reading step

-- without the blanks at the start
unfoldable pub past_blanks : List Piece → List Piece
past_blanks [] = []
past_blanks (p ∷ ps) = cond (blank_piece p) (past_blanks ps) (p ∷ ps)

-- at the first piece that is no blank: the end, or an item; 26 where no more may come
unfoldable pub begun : ℕ → List Piece → Step
unfolding item_at
begun n [] = end
begun zero (p ∷ ps) = refusal 26 (offset_of p)
begun (suc n) (p ∷ ps) = item_at p ps

-- a reading step, where n more items may come
unfoldable pub step : ℕ → List Piece → Step
unfolding past_blanks begun
step n ps = begun n (past_blanks ps)

-- ---- all items

-- one item before the others
abbrev pub with_item : Bytes → Outcome (List Bytes) → Outcome (List Bytes)
with_item x (accepted xs) = accepted (x ∷ xs)
with_item x (refused n p) = refused n p

-- after a step: the item and what the rest gives, no more items, or the refusal
unfoldable pub collected : Step → (List Piece → Outcome (List Bytes)) → Outcome (List Bytes)
collected (item x ps) rest = with_item x (rest ps)
collected end rest = accepted []
collected (refusal n p) rest = refused n p

-- The items of pieces, at most n. With n = 0 a step finds the end or 26, so the function for the rest is never used.
unfoldable pub items_of : ℕ → List Piece → Outcome (List Bytes)
unfolding step collected
items_of zero ps = collected (step zero ps) (λ rest. accepted [])
items_of (suc n) ps = collected (step (suc n) ps) (items_of n)

-- ---- the text

-- a byte that a text to split may not have: 00 to 1F but tab, or 7F
abbrev pub forbidden : ℕ → Bool
forbidden b = (between 0x00 0x1F b && not (eqb b 0x09)) || eqb b 0x7F

-- the offset of the first such byte, or the length where there is none
unfoldable pub first_forbidden : Bytes → ℕ
first_forbidden [] = 0
first_forbidden (b ∷ bs) = cond (forbidden b) 0 (suc (first_forbidden bs))

-- 20, 21, then the items, at most 256 of them
unfoldable pub split_of : Bytes → Outcome (List Bytes)
unfolding any first_forbidden pieces items_of
split_of t =
    cond (ltb 4096 (length t)) (refused 20 0)
    (cond (any forbidden t) (refused 21 (first_forbidden t))
    (items_of 256 (pieces t)))

-- ---- the buffers (the rules' rooms)

-- the items' bytes one after another
unfoldable pub bytes_of : List Bytes → Bytes
bytes_of [] = []
bytes_of (x ∷ xs) = x ++ bytes_of xs

-- the end of each item, where the first begins at an offset
unfoldable pub ends_from : ℕ → List Bytes → List ℕ
ends_from at [] = []
ends_from at (x ∷ xs) = (at + length x) ∷ ends_from (at + length x) xs

-- 1 before everything: the buffers have at least 4,096 bytes and 256 numbers
unfoldable pub split_in : (bytes_size ends_size : ℕ) → Bytes → Outcome (List Bytes)
unfolding split_of
split_in bytes_size ends_size t = cond (ltb bytes_size 4096 || ltb ends_size 256) (refused 1 0) (split_of t)
