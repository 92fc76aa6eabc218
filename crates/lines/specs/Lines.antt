-- Physical lines, comment lines, joining, logical lines.
use Rattle.std.specs.Prelude.{ℕ, zero, suc, Bool, false, not, ◌||◌, cond, List, [], ◌∷◌, ◌++◌, length, eqb, ltb}
use Rattle.std.proofs.Math.Option.{Option, none, some}
use Rattle.lines.specs.Bytes.{Bytes, is_lf, all}

-- A physical or a logical line: the number of the (first) physical line that it is made of, its bytes,
-- and the offset just after the LF that ends it, none where the file's end does.
pub record Line : Type 0 where
  pub number : ℕ
  pub bytes : Bytes
  pub end : Option ℕ

-- ---- physical lines

-- One byte more at the start of the first line, which has the number n. Where no line follows, the byte
-- is a line of its own, and the file's end ends it.
unfoldable pub prepend : ℕ → ℕ → List Line → List Line
prepend n b [] = record { number = n; bytes = b ∷ []; end = none } ∷ []
prepend n b (l ∷ ls) = record { number = n; bytes = b ∷ l.bytes; end = l.end } ∷ ls

-- The physical lines of bytes that start at offset a, in line n. Each ends at LF or at the file's
-- end; nothing after a last LF is no line.
unfoldable pub physical : ℕ → ℕ → Bytes → List Line
unfolding prepend
physical n a [] = []
physical n a (b ∷ bs) =
    cond (is_lf b)
    (record { number = n; bytes = []; end = some (suc a) } ∷ physical (suc n) (suc a) bs)
    (prepend n b (physical n (suc a) bs))

-- ---- comment lines

-- its first byte is # or ;
unfoldable pub comment : Bytes → Bool
comment [] = false
comment (b ∷ bs) = eqb b 0x23 || eqb b 0x3B

-- ---- continued lines

-- the backslash
abbrev pub backslash : ℕ → Bool
backslash b = eqb b 0x5C

-- the length of the run of backslashes that closes a line
unfoldable pub closing_run : Bytes → ℕ
unfolding all
closing_run [] = 0
closing_run (b ∷ bs) = cond (all backslash (b ∷ bs)) (length (b ∷ bs)) (closing_run bs)

-- an odd number
unfoldable pub odd : ℕ → Bool
odd zero = false
odd (suc n) = not (odd n)

-- a line is continued when that run is odd
unfoldable pub continued : Bytes → Bool
unfolding odd closing_run
continued l = odd (closing_run l)

-- the last byte becomes one space
unfoldable pub spaced : Bytes → Bytes
spaced [] = []
spaced (b ∷ []) = 0x20 ∷ []
spaced (b ∷ c ∷ cs) = b ∷ spaced (c ∷ cs)

-- ---- joining

-- A continued line l, and the logical lines of what comes after it. The first of these begins with the
-- next line that is no comment, and follows at once, its leading blanks kept. Where there is none the
-- file has ended and the line is complete; its backslash is a space there too (bench case 4).
unfoldable pub join_next : Line → List Line → List Line
unfolding spaced
join_next l [] = record { number = l.number; bytes = spaced l.bytes; end = none } ∷ []
join_next l (k ∷ ks) = record { number = l.number; bytes = spaced l.bytes ++ k.bytes; end = k.end } ∷ ks

-- The logical lines of physical lines. A comment line is dropped whole, wherever it stands.
unfoldable pub joined : List Line → List Line
unfolding comment continued join_next
joined [] = []
joined (l ∷ ls) =
    cond (comment l.bytes) (joined ls)
    (cond (continued l.bytes) (join_next l (joined ls)) (l ∷ joined ls))

-- a logical line has at most 4,096 bytes before trimming
abbrev pub too_long : Line → Bool
too_long l = ltb 4096 (length l.bytes)

-- the logical lines of a file, before trimming
unfoldable pub logical : Bytes → List Line
unfolding physical joined
logical f = joined (physical 1 0 f)

-- lines written out, each with its LF
unfoldable pub written : List Bytes → Bytes
written [] = []
written (l ∷ ls) = l ++ 0x0A ∷ written ls
