-- Steps of the joiner. No public promise cites this file.
use Rattle.std.specs.Prelude.{◌≡◌, ℕ, suc, ◌+◌, ◌≤◌, ◌<◌, Bool, false, not, cond, List, [], ◌∷◌, length, drop}
use Rattle.std.proofs.Math.Option.{Option}
use Rattle.lines.specs.Bytes.{Bytes, is_lf, line_feeds}
use Rattle.lines.specs.Lines.{Line, physical, comment, continued, spaced}
use Rattle.lines.specs.Cursors.{lines_at, end_of, bytes_between, cursor_past}
use Rattle.lines.specs.declared.joiner.Cursor.{Cursor}
use Rattle.lines.specs.declared.joiner.Physical.{Physical}
use Rattle.lines.specs.declared.joiner.Piece.{Piece}
use Rattle.lines.specs.declared.joiner.Measured.{Measured}

-- the number of bytes before the first LF
unfoldable pub line_length : Bytes → ℕ
line_length [] = 0
line_length (b ∷ bs) = cond (is_lf b) 0 (suc (line_length bs))

-- what a physical line gives to the logical line that it stands in
unfoldable pub piece : Bytes → Bytes
unfolding comment continued spaced
piece l = cond (comment l) [] (cond (continued l) (spaced l) l)

-- whether it ends that logical line
unfoldable pub ends : Bytes → Bool
unfolding comment continued
ends l = cond (comment l) false (not (continued l))

-- the bytes of the first line
abbrev pub first_bytes : List Line → Bytes
first_bytes [] = []
first_bytes (l ∷ ls) = l.bytes

-- a cursor before the file's end whose line number is not above its offset + 1
pub record At (f : Bytes) (c : Cursor) : Type 0 where
  pub inside : c.offset < length f
  pub number : c.line ≤ c.offset + 1

-- the same, at a line that is no comment
pub record Standing (f : Bytes) (c : Cursor) : Type 0 where
  pub at : At f c
  pub stands : comment (drop c.offset f) ≡ false

-- d lies at c or after it, in the file or at its end, and counts the LFs between them
pub record Onward (f : Bytes) (c d : Cursor) : Type 0 where
  pub inside : d.offset ≤ length f
  pub onward : c.offset ≤ d.offset
  pub counted : d.line ≡ c.line + line_feeds (bytes_between c.offset d.offset f)

-- the bytes of a physical line at c that has been measured
abbrev pub text_of : Bytes → Cursor → Physical → Bytes
text_of f c p = bytes_between c.offset p.end f

-- The physical line at c: its bytes and what follows it; it is a comment where the bytes from c on start
-- one; it ends where the next one starts; the next cursor lies further on.
pub record PhysicalAt (f : Bytes) (c : Cursor) (p : Physical) : Type 0 where
  pub end : Option ℕ
  pub first : physical c.line c.offset (drop c.offset f)
      ≡ record { number = c.line; bytes = text_of f c p; end = end } ∷ physical p.next.line p.next.offset (drop p.next.offset f)
  pub mark : comment (text_of f c p) ≡ comment (drop c.offset f)
  pub ended : end_of f end ≡ p.next.offset
  pub onward : Onward f c p.next
  pub later : c.offset < p.next.offset
  pub starts : c.offset ≤ p.end
  pub stops : p.end ≤ length f
  pub ended_after : p.end ≤ p.next.offset

-- how many bytes a physical line gives, and whether it ends the logical line
pub record PieceOf (l : Bytes) (p : Piece) : Type 0 where
  pub length_is : p.length ≡ length (piece l)
  pub ends_is : p.ends ≡ ends l

-- d is past the comment lines at c
pub record Skipped (f : Bytes) (c d : Cursor) : Type 0 where
  pub onward : Onward f c d
  pub lines : lines_at f c ≡ lines_at f d
  pub stands : comment (drop d.offset f) ≡ false

-- the logical line at c: its length, and the cursor past it
pub record MeasuredAt (f : Bytes) (c : Cursor) (m : Measured) : Type 0 where
  pub line : Line
  pub view : lines_at f c ≡ line ∷ lines_at f m.next
  pub number_is : line.number ≡ c.line
  pub length_is : m.length ≡ length line.bytes
  pub next_is : m.next ≡ cursor_past f c line
  pub onward : Onward f c m.next
  pub later : c.offset < m.next.offset
  pub shorter : c.offset + m.length ≤ m.next.offset
