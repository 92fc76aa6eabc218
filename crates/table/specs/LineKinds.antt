-- What a trimmed logical line is: nothing, a section header (the rules' heading), an entry, or a fault.
use Rattle.std.specs.Prelude.{ℕ, Bool, false, cond, not, ◌&&◌, [], ◌∷◌, ◌==◌}
use Rattle.lines.specs.Bytes.{Bytes, key_byte, header_byte, all, any}
use Rattle.lines.specs.Trim.{trim_start, trim_end}

-- ---- kinds

-- nothing; a section header with its name; an entry with its key and its value (the rules' joined text); or a fault
-- with the number of its refusal
pub data Kind : Type 0 where
  empty : Kind
  header : (name : Bytes) → Kind
  entry : (key value : Bytes) → Kind
  fault : (number : ℕ) → Kind

-- ---- parts of a line

-- one or more bytes, and each of them passes
unfoldable pub one_or_more : (ℕ → Bool) → Bytes → Bool
unfolding all
one_or_more p [] = false
one_or_more p (b ∷ bs) = all p (b ∷ bs)

-- the last byte is c
unfoldable pub ends_with : ℕ → Bytes → Bool
ends_with c [] = false
ends_with c (b ∷ []) = b == c
ends_with c (b ∷ d ∷ ds) = ends_with c (d ∷ ds)

-- all bytes but the last
unfoldable pub without_last : Bytes → Bytes
without_last [] = []
without_last (b ∷ []) = []
without_last (b ∷ c ∷ cs) = b ∷ without_last (c ∷ cs)

-- the bytes before the first c; all of them where there is none
unfoldable pub before : ℕ → Bytes → Bytes
before c [] = []
before c (b ∷ bs) = cond (b == c) [] (b ∷ before c bs)

-- the bytes behind the first c; none where there is none
unfoldable pub behind : ℕ → Bytes → Bytes
behind c [] = []
behind c (b ∷ bs) = cond (b == c) bs (behind c bs)

-- ---- headers

-- the bytes behind a [ are a header's: they end with ], and the name before it has one or more bytes 20 to 7E, none of
-- them [ or ]; blanks there belong to it
unfoldable pub is_header : Bytes → Bool
unfolding ends_with without_last one_or_more
is_header rest = ends_with 0x5D rest && one_or_more header_byte (without_last rest)

-- a line that starts with [, of which these are the other bytes: a header with its name, or 6
unfoldable pub header_kind : Bytes → Kind
unfolding is_header without_last
header_kind rest = cond (is_header rest) (header (without_last rest)) (fault 6)

-- ---- entries

-- the equals sign
abbrev pub equals_sign : ℕ
equals_sign = 0x3D

-- a byte is one
abbrev pub is_equals_sign : ℕ → Bool
is_equals_sign b = b == equals_sign

-- what stands before the first =, without the blanks next to it
unfoldable pub key_of : Bytes → Bytes
unfolding before trim_end
key_of l = trim_end (before equals_sign l)

-- what stands behind it, without the blanks next to it; it may be empty, and may hold more =
unfoldable pub value_of : Bytes → Bytes
unfolding behind trim_start
value_of l = trim_start (behind equals_sign l)

-- A line that starts with no [. Without = it is 7; where the key is not one or more letters, digits, - _ . it is 8.
unfoldable pub entry_kind : Bytes → Kind
unfolding any key_of value_of one_or_more
entry_kind l =
    cond (not (any is_equals_sign l)) (fault 7)
    (cond (not (one_or_more key_byte (key_of l))) (fault 8)
    (entry (key_of l) (value_of l)))

-- ---- lines

-- a trimmed line; an empty one is ignored
unfoldable pub kind : Bytes → Kind
unfolding header_kind entry_kind
kind [] = empty
kind (b ∷ bs) = cond (b == 0x5B) (header_kind bs) (entry_kind (b ∷ bs))
