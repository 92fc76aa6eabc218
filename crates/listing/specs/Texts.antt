-- A text in a buffer: a head at its start, and a tail from an index on. What stands between them stays.
use Rattle.std.specs.Prelude.{ℕ, ◌+◌, Bool, ◌&&◌, cond, length, leb}
use Rattle.lines.specs.Bytes.{Bytes}
use Rattle.lines.specs.Buffers.{put}

-- the tail stands behind the head, and both fit
abbrev pub fits : Bytes → Bytes → ℕ → Bytes → Bool
fits buffer head at tail = leb (length head) at && leb (at + length tail) (length buffer)

-- how long the text is, 0 where it does not fit
unfoldable pub length_in : Bytes → Bytes → ℕ → Bytes → ℕ
length_in buffer head at tail = cond (fits buffer head at tail) (at + length tail) 0

-- the buffer with the text, and as it was where it does not fit
unfoldable pub laid_in : Bytes → Bytes → ℕ → Bytes → Bytes
laid_in buffer head at tail = cond (fits buffer head at tail) (put (put buffer 0 head) at tail) buffer
