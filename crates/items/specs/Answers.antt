-- What the answers mean in the rules, and what a call of `split` leaves in the buffers.
use mathlib.Core.Path.{refl}
use Rattle.std.specs.Prelude.{◌≡◌, ℕ, List, length, Result, Ok, Err, false, eqb}
use Rattle.lines.specs.Bytes.{Bytes}
use Rattle.lines.specs.Answers.{Outcome, accepted, refused}
use Rattle.lines.specs.Buffers.{filled}
use Rattle.items.specs.Split.{bytes_of, ends_from, split_in}
use Rattle.items.specs.declared.error.Error.{Error}
use Rattle.items.specs.declared.error.Error.TheVariants.{ShortBuffer, TextTooLong, ForbiddenByte, MisplacedQuote, OpenQuote, EscapeForm, EscapeValue, TooManyItems, NulByte, BadEnds}
use Rattle.items.specs.declared.splitter.Counts.{Counts}

-- the refusals 1 and 20 to 28: number
abbrev pub number_of : Error → ℕ
number_of ShortBuffer = 1
number_of TextTooLong = 20
number_of (ForbiddenByte at) = 21
number_of (MisplacedQuote at) = 22
number_of (OpenQuote at) = 23
number_of (EscapeForm at) = 24
number_of (EscapeValue at) = 25
number_of (TooManyItems at) = 26
number_of NulByte = 27
number_of BadEnds = 28

-- and place: an offset, or 0
abbrev pub place_of : Error → ℕ
place_of ShortBuffer = 0
place_of TextTooLong = 0
place_of (ForbiddenByte at) = at
place_of (MisplacedQuote at) = at
place_of (OpenQuote at) = at
place_of (EscapeForm at) = at
place_of (EscapeValue at) = at
place_of (TooManyItems at) = at
place_of NulByte = 0
place_of BadEnds = 0

-- none has the number 0
pub never_0 : (e : Error) → eqb (number_of e) 0 ≡ false
never_0 ShortBuffer = refl
never_0 TextTooLong = refl
never_0 (ForbiddenByte at) = refl
never_0 (MisplacedQuote at) = refl
never_0 (OpenQuote at) = refl
never_0 (EscapeForm at) = refl
never_0 (EscapeValue at) = refl
never_0 (TooManyItems at) = refl
never_0 NulByte = refl
never_0 BadEnds = refl

-- an error is a refusal
abbrev pub error_means : {A : Type 0} → Error → Outcome A
error_means e = refused (number_of e) (place_of e)

-- ---- splitting

-- what the answer of `split` means
abbrev pub split_means : Result Counts Error → Outcome Counts
split_means (Ok c) = accepted c
split_means (Err e) = error_means e

-- the counts of a list of items
abbrev pub counted : Outcome (List Bytes) → Outcome Counts
counted (accepted xs) = accepted (record { items = length xs; bytes = length (bytes_of xs) })
counted (refused n p) = refused n p

-- the buffer of bytes afterwards: the items' bytes in front, and the rest as it was
abbrev pub bytes_after : Outcome (List Bytes) → Bytes → Bytes
bytes_after (accepted xs) d = filled (bytes_of xs) d
bytes_after (refused n p) d = d

-- and the buffer of ends
abbrev pub ends_after : Outcome (List Bytes) → List ℕ → List ℕ
ends_after (accepted xs) d = filled (ends_from 0 xs) d
ends_after (refused n p) d = d

-- what a call leaves in both buffers, where this is the outcome
pub record ItemsLeft (o : Outcome (List Bytes)) (bytes : Bytes) (ends : List ℕ) (bytes' : Bytes) (ends' : List ℕ) : Type 0 where
  pub new_bytes : bytes' ≡ bytes_after o bytes
  pub new_ends : ends' ≡ ends_after o ends

-- and what it answers
pub record SplitLeaves (o : Outcome (List Bytes)) (bytes : Bytes) (ends : List ℕ) (r : Result Counts Error) (bytes' : Bytes) (ends' : List ℕ) : Type 0 where
  pub answer : split_means r ≡ counted o
  pub left : ItemsLeft o bytes ends bytes' ends'

-- the promise of `split`: the answer, and both buffers whole
abbrev pub Splits : (text bytes : Bytes) (ends : List ℕ) (r : Result Counts Error) (bytes' : Bytes) (ends' : List ℕ) → Type 0
Splits text bytes ends r bytes' ends' = SplitLeaves (split_in (length bytes) (length ends) text) bytes ends r bytes' ends'
