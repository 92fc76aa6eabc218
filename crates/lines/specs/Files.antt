-- What is judged of a whole file before its lines: refusals 2, 3 and 4.
use Rattle.std.specs.Prelude.{ℕ, suc, ◌+◌, Bool, false, not, cond, [], ◌∷◌, length, take, ltb, Result, Ok, Err}
use Rattle.lines.specs.Bytes.{Bytes, is_lf, control, any, line_feeds}
use Rattle.lines.specs.Utf8.{utf8, longest_start}
use Rattle.lines.specs.Answers.{Outcome, accepted, refused, error_means}
use Rattle.lines.specs.declared.error.Error.{Error}

-- not empty, and its last byte is no LF
unfoldable pub unterminated : Bytes → Bool
unterminated [] = false
unterminated (b ∷ []) = not (is_lf b)
unterminated (b ∷ c ∷ cs) = unterminated (c ∷ cs)

-- a non-empty file that does not end in LF counts one byte more
unfoldable pub size : Bytes → ℕ
unfolding unterminated
size f = cond (unterminated f) (length f + 1) (length f)

-- the line in which an offset lies, counted from 1
unfoldable pub line_at : ℕ → Bytes → ℕ
unfolding line_feeds
line_at n f = suc (line_feeds (take n f))

-- the offset of the first control byte, or the length where there is none
unfoldable pub first_control : Bytes → ℕ
first_control [] = 0
first_control (b ∷ bs) = cond (control b) 0 (suc (first_control bs))

-- 3, then 4, each over the whole file
unfoldable pub checked_bytes : Bytes → Outcome (Unit {0})
unfolding utf8 any line_at longest_start first_control
checked_bytes f =
    cond (not (utf8 f)) (refused 3 (line_at (longest_start f) f))
    (cond (any control f) (refused 4 (line_at (first_control f) f))
    (accepted tt))

-- 2 before them: a file has at most 65,535 bytes
unfoldable pub checked_file : Bytes → Outcome (Unit {0})
unfolding size checked_bytes
checked_file f = cond (ltb 65535 (size f)) (refused 2 0) (checked_bytes f)

-- what the answer of `check_file` means
abbrev pub check_means : Result (Unit {0}) Error → Outcome (Unit {0})
check_means (Ok u) = accepted u
check_means (Err e) = error_means e
