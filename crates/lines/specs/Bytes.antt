-- Bytes, and the kinds of bytes that the rules name.
use Rattle.std.specs.Prelude.{ℕ, suc, Bool, true, false, not, ◌&&◌, ◌||◌, cond, List, [], ◌∷◌, leb, eqb}

-- bytes by their numbers, which are below 256 in a file
abbrev pub Bytes : Type 0
Bytes = List ℕ

-- from low to high, both included
abbrev pub between : ℕ → ℕ → ℕ → Bool
between low high b = leb low b && leb b high

-- the line feed
abbrev pub is_lf : ℕ → Bool
is_lf b = eqb b 0x0A

-- a blank: space or tab
abbrev pub blank : ℕ → Bool
blank b = eqb b 0x20 || eqb b 0x09

-- a control byte of a file: 00 to 1F but tab and LF, and 7F
abbrev pub control : ℕ → Bool
control b = (between 0x00 0x1F b && not (eqb b 0x09 || eqb b 0x0A)) || eqb b 0x7F

-- A to Z, a to z
abbrev pub letter : ℕ → Bool
letter b = between 0x41 0x5A b || between 0x61 0x7A b

-- 0 to 9
abbrev pub digit : ℕ → Bool
digit b = between 0x30 0x39 b

-- a byte of a key: letter, digit, - _ .
abbrev pub key_byte : ℕ → Bool
key_byte b = letter b || digit b || eqb b 0x2D || eqb b 0x5F || eqb b 0x2E

-- a byte of the name in a section header (the rules' heading): 20 to 7E, neither [ nor ]
abbrev pub header_byte : ℕ → Bool
header_byte b = between 0x20 0x7E b && not (eqb b 0x5B || eqb b 0x5D)

-- ---- on runs of bytes

-- every byte passes
unfoldable pub all : (ℕ → Bool) → Bytes → Bool
all p [] = true
all p (b ∷ bs) = p b && all p bs

-- some byte passes
unfoldable pub any : (ℕ → Bool) → Bytes → Bool
any p [] = false
any p (b ∷ bs) = p b || any p bs

-- equal byte for byte
unfoldable pub equal : Bytes → Bytes → Bool
equal [] [] = true
equal [] (c ∷ cs) = false
equal (b ∷ bs) [] = false
equal (b ∷ bs) (c ∷ cs) = eqb b c && equal bs cs

-- how many LFs there are
unfoldable pub line_feeds : Bytes → ℕ
line_feeds [] = 0
line_feeds (b ∷ bs) = cond (is_lf b) (suc (line_feeds bs)) (line_feeds bs)
