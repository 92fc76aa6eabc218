-- A list of items as a text.
use Rattle.std.specs.Prelude.{Option, Some, None, ℕ, ◌+◌, ◌-◌, ◌/◌, ◌%◌, Bool, true, false, not, ◌&&◌, ◌||◌, cond, List, [], ◌∷◌, ◌++◌, length, take, drop, eqb, leb, ltb}
use Prim.Native.Char.{code}
use Rattle.lines.specs.Bytes.{Bytes, between, letter, digit, all, any}
use Rattle.lines.specs.Text.{bytes}
use Rattle.lines.specs.Answers.{Outcome, accepted, refused}
use Rattle.items.specs.Escapes.{Letter, control_letters, sign_letters}
use Rattle.items.specs.Split.{bytes_of}

-- ---- one item

-- a byte of a bare item: a letter, a digit, or one of - _ . / : @ % , +
unfoldable pub bare_byte : ℕ → Bool
unfolding any
bare_byte b = letter b || digit b || any (eqb b) (bytes "-_./:@%,+")

-- one or more such bytes
unfoldable pub is_bare : Bytes → Bool
unfolding all bare_byte
is_bare [] = false
is_bare (b ∷ bs) = all bare_byte (b ∷ bs)

-- the letter that gives a byte, if one is listed
unfoldable pub letter_of : List Letter → ℕ → Option ℕ
letter_of [] b = None
letter_of (l ∷ ls) b = cond (eqb b l.byte) (Some l.letter) (letter_of ls b)

-- a lower-case hex digit
abbrev pub hex_digit : ℕ → ℕ
hex_digit n = cond (ltb n 10) (0x30 + n) (0x61 + n - 10)

-- a backslash and a letter where one is listed; 20 to 7E as they are; any other byte as \x and two digits
unfoldable pub byte_form : Option ℕ → ℕ → Bytes
byte_form (Some c) b = 0x5C ∷ c ∷ []
byte_form None b =
    cond (between 0x20 0x7E b) (b ∷ []) (0x5C ∷ code "x" ∷ hex_digit (b / 16) ∷ hex_digit (b % 16) ∷ [])

-- a byte inside double quotes; letters are the seven for control bytes, \\ and \"
unfoldable pub written_byte : ℕ → Bytes
unfolding letter_of byte_form
written_byte b = byte_form (letter_of (control_letters ++ sign_letters) b) b

-- and all bytes of an item
unfoldable pub in_quotes : Bytes → Bytes
unfolding written_byte
in_quotes [] = []
in_quotes (b ∷ bs) = written_byte b ++ in_quotes bs

-- an item: bare where it may be, else in double quotes
unfoldable pub written_item : Bytes → Bytes
unfolding is_bare in_quotes
written_item x = cond (is_bare x) x (0x22 ∷ in_quotes x ++ 0x22 ∷ [])

-- ---- a list of items

-- one space between items
unfoldable pub written : List Bytes → Bytes
unfolding written_item
written [] = []
written (x ∷ []) = written_item x
written (x ∷ y ∷ ys) = written_item x ++ 0x20 ∷ written (y ∷ ys)

-- ---- the items that are lent: bytes, and the end of each item

-- No end lies below the one before it, nor past the bytes. The first item begins at an offset.
unfoldable pub ends_fit : (offset size : ℕ) → List ℕ → Bool
ends_fit at n [] = true
ends_fit at n (e ∷ es) = leb at e && leb e n && ends_fit e n es

-- the items that the ends cut out of the bytes; bytes past the last end are no item
unfoldable pub cut_from : ℕ → Bytes → List ℕ → List Bytes
cut_from at bs [] = []
cut_from at bs (e ∷ es) = take (e - at) (drop at bs) ∷ cut_from e bs es

-- the same from the start
abbrev pub items_in : Bytes → List ℕ → List Bytes
items_in bs ends = cut_from 0 bs ends

-- where the last item ends, or the start where there is none
abbrev pub last_end : ℕ → List ℕ → ℕ
last_end at [] = at
last_end at (e ∷ es) = last_end e es

-- a byte that no item to write may have
abbrev pub nul : ℕ → Bool
nul b = eqb b 0x00

-- the text for a buffer of this size, or the refusal: 1, 26, 28, 27, 20
unfoldable pub write_in : (out_size : ℕ) → Bytes → List ℕ → Outcome Bytes
unfolding ends_fit cut_from any bytes_of written
write_in out_size bs ends =
    cond (ltb out_size 4096) (refused 1 0)
    (cond (ltb 256 (length ends)) (refused 26 0)
    (cond (not (ends_fit 0 (length bs) ends)) (refused 28 0)
    (cond (any nul (bytes_of (items_in bs ends))) (refused 27 0)
    (cond (ltb 4096 (length (written (items_in bs ends)))) (refused 20 0)
    (accepted (written (items_in bs ends)))))))
