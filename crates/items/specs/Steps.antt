-- What the functions inside the crate promise: escapes, and the steps of reading an item into a buffer.
use Rattle.std.specs.Prelude.{◌≡◌, ℕ, ◌+◌, ◌≤◌, ◌<◌, true, false, cond, List, [], ◌∷◌, length, take, drop, get_or, Option, Some, None, Result, Ok, Err}
use Rattle.lines.specs.Bytes.{Bytes, blank}
use Rattle.lines.specs.Answers.{Outcome, accepted}
use Rattle.lines.specs.Buffers.{put, filled}
use Rattle.items.specs.Escapes.{digit_value, digit_of, Escaped}
use Rattle.items.specs.Pieces.{pieces_from}
use Rattle.items.specs.Pieces as pieces
use Rattle.items.specs.Split.{item, end, refusal, with_bytes, bare_item, quoted_item, closed_item, bytes_of, ends_from}
use Rattle.items.specs.Split as split
use Rattle.items.specs.Answers.{number_of, place_of, error_means}
use Rattle.items.specs.declared.error.Error.{Error}
use Rattle.items.specs.declared.few.Few.{Few}
use Rattle.items.specs.declared.escapes.Escape.{Escape}
use Rattle.items.specs.declared.pieces.Mode.{Mode}
use Rattle.items.specs.declared.pieces.Mode.TheVariants.{Bare, Quoted}
use Rattle.items.specs.declared.pieces.Piece.{Piece}
use Rattle.items.specs.declared.pieces.Piece.TheVariants.{Plain as PiecePlain, Bytes as PieceBytes, End as PieceEnd}
use Rattle.items.specs.declared.splitter.Counts.{Counts}
use Rattle.items.specs.declared.splitter.Step.{Step}
use Rattle.items.specs.declared.splitter.Step.TheVariants.{Item, End, Refused}

-- ---- escapes

-- what a byte stands for as a digit of a base, if it is one
abbrev pub digit_in : ℕ → ℕ → Option ℕ
digit_in base c = cond (digit_of base c) (Some (digit_value c)) None

-- up to four bytes
abbrev pub few_bytes : Few → Bytes
few_bytes f = take f.count f.bytes

-- an escape is its bytes or a refusal
abbrev pub escape_means : Result Escape Error → Outcome Escaped
escape_means (Ok e) = accepted (record { bytes = few_bytes e.bytes; taken = e.taken })
escape_means (Err e) = error_means e

-- ---- pieces

-- the pieces of a text from an offset on
unfoldable pub pieces_at : Bytes → ℕ → List pieces.Piece
pieces_at t at = pieces_from 0 at (drop at t)

-- the rest of an item, bare or in quotes
unfoldable pub rest_of : Mode → List pieces.Piece → split.Step
rest_of Bare ps = bare_item ps
rest_of (Quoted q o) ps = quoted_item q o ps

-- a byte of the item that stands for itself at an offset
pub record PlainAt (m : Mode) (t : Bytes) (at b : ℕ) : Type 0 where
  pub step : rest_of m (pieces_at t at) ≡ with_bytes (b ∷ []) (rest_of m (pieces_at t (at + 1)))
  pub inside : at < length t

-- Bytes of the item at an offset, and where its next piece stands. They fit where the bytes of the text did.
pub record BytesAt (m : Mode) (t : Bytes) (at : ℕ) (f : Few) (next : ℕ) : Type 0 where
  pub step : rest_of m (pieces_at t at) ≡ with_bytes (few_bytes f) (rest_of m (pieces_at t next))
  pub fits : at + length (few_bytes f) ≤ next
  pub later : at < next
  pub inside : next ≤ length t

-- the item ends before an offset
pub record EndsAt (m : Mode) (t : Bytes) (at next : ℕ) : Type 0 where
  pub step : rest_of m (pieces_at t at) ≡ item [] (pieces_at t next)
  pub later : at ≤ next
  pub inside : next ≤ length t

-- what stands at an offset inside an item
abbrev pub PieceAt : Mode → Bytes → ℕ → Result Piece Error → Type 0
PieceAt m t at (Ok (PiecePlain b)) = PlainAt m t at b
PieceAt m t at (Ok (PieceBytes f next)) = BytesAt m t at f next
PieceAt m t at (Ok (PieceEnd next)) = EndsAt m t at next
PieceAt m t at (Err e) = rest_of m (pieces_at t at) ≡ refusal (number_of e) (place_of e)

-- the same in and out of quotes: an escape
abbrev pub EscapePiece : Bytes → ℕ → Result Piece Error → Type 0
EscapePiece t at r = (m : Mode) → PieceAt m t at r

-- behind a closing quote, which stands before an offset
abbrev pub ClosedAt : Bytes → ℕ → Result Piece Error → Type 0
ClosedAt t at (Ok (PiecePlain b)) = ⊥
ClosedAt t at (Ok (PieceBytes f next)) = ⊥
ClosedAt t at (Ok (PieceEnd next)) = (closed_item (pieces_at t at) ≡ item [] (pieces_at t at)) × (next ≡ at)
ClosedAt t at (Err e) = closed_item (pieces_at t at) ≡ refusal (number_of e) (place_of e)

-- ---- steps

-- n blanks stand first, and behind them none or the end
pub record BlanksFirst (t : Bytes) (n : ℕ) : Type 0 where
  pub within : n ≤ length t
  pub before : (k : ℕ) → k < n → blank (get_or t k 0) ≡ true
  pub behind : n < length t → blank (get_or t n 0) ≡ false

-- An item was read: its bytes stand in the buffer from index n on, up to index m, and reading goes on at an offset.
pub record ItemRead (t : Bytes) (s : split.Step) (n : ℕ) (before after : Bytes) (next m : ℕ) : Type 0 where
  pub bytes : Bytes
  pub step : s ≡ item bytes (pieces_at t next)
  pub buffer : after ≡ put before n bytes
  pub size : m ≡ n + length bytes
  pub fits : m ≤ next
  pub inside : next ≤ length t

-- what a step finds, and what it leaves in the buffer; after a refusal nobody reads that
abbrev pub StepTaken : Bytes → split.Step → ℕ → Bytes → Bytes → Step → Type 0
StepTaken t s n before after (Item next m) = ItemRead t s n before after next m
StepTaken t s n before after End = (s ≡ end) × (after ≡ before)
StepTaken t s n before after (Refused e) = s ≡ refusal (number_of e) (place_of e)

-- all items were read
pub record AllRead (o : Outcome (List Bytes)) (count size : ℕ) (bytes bytes' : Bytes) (ends ends' : List ℕ) : Type 0 where
  pub items : List Bytes
  pub outcome : o ≡ accepted items
  pub count_is : count ≡ length items
  pub size_is : size ≡ length (bytes_of items)
  pub bytes_are : bytes' ≡ filled (bytes_of items) bytes
  pub ends_are : ends' ≡ filled (ends_from 0 items) ends
  pub few : count ≤ 256
  pub fits : size ≤ 4096

-- what reading all items gives
abbrev pub ReadAll : Outcome (List Bytes) → (bytes bytes' : Bytes) (ends ends' : List ℕ) → Result Counts Error → Type 0
ReadAll o bytes bytes' ends ends' (Ok c) = AllRead o c.items c.bytes bytes bytes' ends ends'
ReadAll o bytes bytes' ends ends' (Err e) = o ≡ error_means e
