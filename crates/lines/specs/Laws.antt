-- What the crates above rest on beside the promises: statements about the definitions, proved in
-- proofs/Laws.antt.
use Rattle.std.specs.Prelude.{◌≡◌, ℕ, suc, ◌+◌, ◌≤◌, ◌<◌, Bool, true, false, not, ◌&&◌, List, [], ◌∷◌, ◌++◌, length, leb, eqb, Ok, Err, Some, None}
use Rattle.lines.specs.Bytes.{Bytes, is_lf, blank, control, between, all, line_feeds}
use Rattle.lines.specs.Answers.{accepted, number_of, place_of}
use Rattle.lines.specs.Utf8.{utf8, encoded}
use Rattle.lines.specs.Lines.{Line, physical, comment, continued, join_next, joined, logical, written}
use Rattle.lines.specs.Files.{unterminated, size, checked_file}
use Rattle.lines.specs.Cursors.{first_cursor, logical_from, cursor_past, NextLine}
use Rattle.lines.specs.Buffers.{filled}
use Rattle.lines.specs.declared.error.Error.{Error}
use Rattle.lines.specs.declared.joiner.Cursor.{Cursor}

-- ---- UTF-8

-- a byte below 80 parts a text into two that are judged by themselves
abbrev pub Utf8Splits : Type 0
Utf8Splits = (a : Bytes) (c : ℕ) (b : Bytes) → leb c 0x7F ≡ true → utf8 (a ++ c ∷ b) ≡ (utf8 a && utf8 b)

-- behind a well-formed text the rest is judged by itself
abbrev pub Utf8Appends : Type 0
Utf8Appends = (a b : Bytes) → utf8 a ≡ true → utf8 (a ++ b) ≡ utf8 b

-- bytes below 80 are well-formed
abbrev pub AsciiUtf8 : Type 0
AsciiUtf8 = (l : Bytes) → all (λ b. leb b 0x7F) l ≡ true → utf8 l ≡ true

-- the bytes of a code point are well-formed
abbrev pub EncodedUtf8 : Type 0
EncodedUtf8 = (n : ℕ) → n ≤ 0x10FFFF → between 0xD800 0xDFFF n ≡ false → utf8 (encoded n) ≡ true

-- ---- a file that is accepted before its lines are read

-- not a control byte
abbrev pub plain : ℕ → Bool
plain b = not (control b)

-- short enough, UTF-8, without control bytes
pub record Sound (f : Bytes) : Type 0 where
  pub short : size f ≤ 65535
  pub characters : utf8 f ≡ true
  pub bytes : all plain f ≡ true

-- none of 2, 3 and 4 is met exactly by a sound file
abbrev pub CheckedSound : Type 0
CheckedSound = (f : Bytes) → checked_file f ≡ accepted tt → Sound f

-- and the other way round
abbrev pub SoundChecked : Type 0
SoundChecked = (f : Bytes) → Sound f → checked_file f ≡ accepted tt

-- ---- one more physical line in front

-- a comment changes nothing
abbrev pub CommentDropped : Type 0
CommentDropped = (l : Line) (ls : List Line) → comment l.bytes ≡ true → joined (l ∷ ls) ≡ joined ls

-- a line that is not continued is a logical line
abbrev pub LineKept : Type 0
LineKept = (l : Line) (ls : List Line) → comment l.bytes ≡ false → continued l.bytes ≡ false
    → joined (l ∷ ls) ≡ l ∷ joined ls

-- a continued line takes the next logical line
abbrev pub LineContinued : Type 0
LineContinued = (l : Line) (ls : List Line) → comment l.bytes ≡ false → continued l.bytes ≡ true
    → joined (l ∷ ls) ≡ join_next l (joined ls)

-- a comment may stand anywhere among the lines
abbrev pub CommentAnywhere : Type 0
CommentAnywhere = (a : List Line) (c : Line) (b : List Line) → comment c.bytes ≡ true → joined (a ++ c ∷ b) ≡ joined (a ++ b)

-- a line whose first byte is no blank, # or ; is no comment
abbrev pub NoComment : Type 0
NoComment = (b : ℕ) (bs : Bytes) → blank b ≡ false → eqb b 0x23 ≡ false → eqb b 0x3B ≡ false → comment (b ∷ bs) ≡ false

-- behind a part that ends in LF, or is empty, the lines of the rest stand for themselves
abbrev pub LinesAppend : Type 0
LinesAppend = (p q : Bytes) (n a : ℕ) → unterminated p ≡ false
    → physical n a (p ++ q) ≡ physical n a p ++ physical (n + line_feeds p) (a + length p) q

-- the bytes of each line
abbrev pub bytes_of : List Line → List Bytes
bytes_of [] = []
bytes_of (l ∷ ls) = l.bytes ∷ bytes_of ls

-- line numbers and offsets do not decide the bytes of the logical lines
abbrev pub NumbersApart : Type 0
NumbersApart = (f : Bytes) (n a m b : ℕ) → bytes_of (joined (physical n a f)) ≡ bytes_of (joined (physical m b f))

-- ---- reading on

-- from the first cursor on stand the logical lines of the file
abbrev pub ReadsAll : Type 0
ReadsAll = (f : Bytes) → logical_from f first_cursor ≡ logical f

-- The line l is the next one at c. Behind it stand the lines from the cursor past it on. That cursor lies
-- further on, in the file or at its end, and the line has no more bytes than were passed.
pub record Ahead (f : Bytes) (c : Cursor) (l : Line) (ls : List Line) : Type 0 where
  pub others : ls ≡ logical_from f (cursor_past f c l)
  pub inside : (cursor_past f c l).offset ≤ length f
  pub later : c.offset < (cursor_past f c l).offset
  pub shorter : c.offset + length l.bytes ≤ (cursor_past f c l).offset
  pub number : (cursor_past f c l).line ≤ (cursor_past f c l).offset + 1
  pub first : c.line ≤ l.number

-- this holds of each line that is next
abbrev pub ReadsOn : Type 0
ReadsOn = (f : Bytes) (c : Cursor) (l : Line) (ls : List Line) → logical_from f c ≡ l ∷ ls → Ahead f c l ls

-- ---- what the promise of `next_line` tells a caller

-- A line was found: it is the next one, it stands at the front of the buffer, and the lines from the
-- next cursor on are the others.
pub record FoundLine (f : Bytes) (c : Cursor) (before after : Bytes) (n m : ℕ) (d : Cursor) : Type 0 where
  pub line : Line
  pub view : logical_from f c ≡ line ∷ logical_from f d
  pub number_is : line.number ≡ m
  pub length_is : length line.bytes ≡ n
  pub fits : n ≤ 4096
  pub buffer : after ≡ filled line.bytes before
  pub inside : d.offset ≤ length f
  pub later : c.offset < d.offset
  pub shorter : c.offset + n ≤ d.offset

abbrev pub FoundTells : Type 0
FoundTells = (f : Bytes) (c : Cursor) (before after : Bytes) (n m : ℕ) (d : Cursor)
    → NextLine f c before after (Ok (Some (record { length = n; first = m; next = d }))) → FoundLine f c before after n m d

-- no line is left, and the buffer is as it was
abbrev pub EndTells : Type 0
EndTells = (f : Bytes) (c : Cursor) (before after : Bytes)
    → NextLine f c before after (Ok None) → (logical_from f c ≡ []) × (after ≡ before)

-- With a buffer that is long enough, a refusal is 5: the next line is too long. The buffer is as it was.
pub record LongLine (f : Bytes) (c : Cursor) (before after : Bytes) (e : Error) : Type 0 where
  pub line : Line
  pub others : List Line
  pub view : logical_from f c ≡ line ∷ others
  pub long : 4096 < length line.bytes
  pub number : number_of e ≡ 5
  pub place : place_of e ≡ line.number
  pub kept : after ≡ before

abbrev pub RefusedTells : Type 0
RefusedTells = (f : Bytes) (c : Cursor) (before after : Bytes) (e : Error)
    → 4096 ≤ length before → NextLine f c before after (Err e) → LongLine f c before after e

-- ---- sizes

-- the bytes of lines, with one each for their LF
unfoldable pub total : List Line → ℕ
total [] = 0
total (l ∷ ls) = suc (length l.bytes) + total ls

-- of the logical lines they are at most the size of the file
abbrev pub LinesFit : Type 0
LinesFit = (f : Bytes) → total (logical f) ≤ size f

-- ---- lines read back

-- every element has the property
abbrev pub All : {A : Type 0} → (A → Type 0) → List A → Type 0
All P [] = Unit {0}
All P (x ∷ xs) = P x × All P xs

-- no byte is LF
unfoldable pub no_lf : Bytes → Bool
unfolding all
no_lf l = all (λ b. not (is_lf b)) l

-- a line that stands for itself: no LF, no comment, no odd closing run
pub record Whole (l : Bytes) : Type 0 where
  pub one : no_lf l ≡ true
  pub kept : comment l ≡ false
  pub ends : continued l ≡ false

-- such lines written out have themselves as their logical lines
abbrev pub ReadBack : Type 0
ReadBack = (ls : List Bytes) → All Whole ls → bytes_of (logical (written ls)) ≡ ls

-- ---- legal lines

-- a byte that may stand in a line
abbrev pub line_byte : ℕ → Bool
line_byte b = plain b && not (is_lf b)

-- UTF-8, with neither LF nor a control byte
pub record Legal (l : Bytes) : Type 0 where
  pub characters : utf8 l ≡ true
  pub bytes : all line_byte l ≡ true

-- legal, and ending in no odd run of backslashes
pub record Settled (l : Bytes) : Type 0 where
  pub legal : Legal l
  pub ends : continued l ≡ false

-- the logical lines of a legal file are legal and end in no odd run
abbrev pub LinesSettled : Type 0
LinesSettled = (f : Bytes) → utf8 f ≡ true → all plain f ≡ true → All (λ (l : Line). Settled l.bytes) (logical f)

-- legal lines written out are a legal file
abbrev pub WrittenLegal : Type 0
WrittenLegal = (ls : List Bytes) → All Legal ls → (utf8 (written ls) ≡ true) × (all plain (written ls) ≡ true)
