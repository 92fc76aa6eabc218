-- The joiner: the logical lines from a cursor on, and the answer for the next one.
use Rattle.std.specs.Prelude.{◌≡◌, ℕ, ◌+◌, ◌-◌, cond, List, [], ◌∷◌, length, take, drop, leb, ltb}
use Rattle.std.proofs.Math.Option.{Option, none, some}
use Rattle.lines.specs.Bytes.{Bytes, line_feeds}
use Rattle.lines.specs.Lines.{Line, physical, joined, too_long}
use Rattle.lines.specs.Answers.{Outcome, accepted, refused, error_means}
use Rattle.lines.specs.Buffers.{filled}
use Rattle.lines.specs.declared.joiner.Cursor.{Cursor}
use Rattle.lines.specs.declared.joiner.LogicalLine.{LogicalLine}
use Rattle.lines.specs.declared.error.Error.{Error}
use Rattle.std.specs.Prelude.{Some, None, Result, Ok, Err}
use Rattle.std.specs.Prelude as code

-- where a reading starts: at the first byte, in line 1
abbrev pub first_cursor : Cursor
first_cursor = record { offset = 0; line = 1 }

-- the logical lines of what a file has from a cursor on
unfoldable pub lines_at : Bytes → Cursor → List Line
unfolding physical joined
lines_at f c = joined (physical c.line c.offset (drop c.offset f))

-- The lines that are left for a cursor. One past the file has none, and neither has one whose line
-- number is above its offset + 1: no reading gives that, since an offset has no more LFs before it
-- than bytes.
unfoldable pub logical_from : Bytes → Cursor → List Line
unfolding lines_at
logical_from f c = cond (leb c.line (c.offset + 1)) (lines_at f c) []

-- where a line ends: just after its LF, or at the file's end
abbrev pub end_of : Bytes → Option ℕ → ℕ
end_of f none = length f
end_of f (some e) = e

-- the bytes from offset a up to offset e
abbrev pub bytes_between : ℕ → ℕ → Bytes → Bytes
bytes_between a e f = take (e - a) (drop a f)

-- the cursor just past a line: its line number has grown by the LFs passed
unfoldable pub cursor_past : Bytes → Cursor → Line → Cursor
unfolding line_feeds
cursor_past f c l = record {
  offset = end_of f l.end;
  line = c.line + line_feeds (bytes_between c.offset (end_of f l.end) f);
}

-- the next logical line: the first of those that are left; over 4,096 bytes it is refused with 5
unfoldable pub next_of : List Line → Outcome (Option Line)
next_of [] = accepted none
next_of (l ∷ ls) = cond (too_long l) (refused 5 l.number) (accepted (some l))

-- the same for a call with a buffer of n bytes; n below 4,096 is refused with 1
unfoldable pub next : Bytes → Cursor → ℕ → Outcome (Option Line)
unfolding next_of logical_from
next f c n = cond (ltb n 4096) (refused 1 0) (next_of (logical_from f c))

-- ---- what a call tells of it

-- a line's length, the number of its first physical line, and the cursor past it; or the end
pub data Reading : Type 0 where
  found : (size first : ℕ) (next : Cursor) → Reading
  ended : Reading

-- the answer for a next line, for none, and for a refusal
abbrev pub answer_for : Bytes → Cursor → Outcome (Option Line) → Outcome Reading
answer_for f c (accepted (some l)) = accepted (found (length l.bytes) l.number (cursor_past f c l))
answer_for f c (accepted none) = accepted ended
answer_for f c (refused n p) = refused n p

-- the bytes that it puts at the front of the buffer: those of a line that was found
abbrev pub bytes_for : Outcome (Option Line) → Bytes
bytes_for (accepted (some l)) = l.bytes
bytes_for (accepted none) = []
bytes_for (refused n p) = []

-- what the answer of `next_line` means
abbrev pub next_means : Result (code.Option LogicalLine) Error → Outcome Reading
next_means (Ok (Some l)) = accepted (found l.length l.first l.next)
next_means (Ok None) = accepted ended
next_means (Err e) = error_means e

-- the promise of `next_line`: the answer, and the whole buffer
pub record NextLine (f : Bytes) (c : Cursor) (before after : Bytes) (r : Result (code.Option LogicalLine) Error) : Type 0 where
  pub answer : next_means r ≡ answer_for f c (next f c (length before))
  pub buffer : after ≡ filled (bytes_for (next f c (length before))) before
