-- What is known of the definitions: statements, proved in proofs/Laws.antt.
use Rattle.std.specs.Prelude.{◌≡◌, ℕ, ◌≤◌, true, false, List, length, take}
use Rattle.lines.specs.Bytes.{Bytes, between, all, any}
use Rattle.lines.specs.Answers.{accepted}
use Rattle.items.specs.Split.{split_of, split_in, bytes_of, ends_from}
use Rattle.items.specs.Write.{written, ends_fit, items_in, last_end, nul, write_in}
use Rattle.items.specs.Grammar.{Spelled}

-- ---- the texts that are accepted

-- a text that is made as Grammar says is accepted, with its items
abbrev pub SpelledSplits : Type 0
SpelledSplits = (t : Bytes) (xs : List Bytes) → Spelled t xs → split_of t ≡ accepted xs

-- and no other text is accepted
abbrev pub SplitIsSpelled : Type 0
SplitIsSpelled = (t : Bytes) (xs : List Bytes) → split_of t ≡ accepted xs → Spelled t xs

-- What is accepted fits the buffers: no more bytes than the text has, which are at most 4,096, and at most 256 items.
abbrev pub SplitFits : Type 0
SplitFits = (t : Bytes) (xs : List Bytes) → split_of t ≡ accepted xs → (length (bytes_of xs) ≤ length t) × (length xs ≤ 256)

-- ---- written and split

-- a list that can be written: at most 256 items, free of NUL (a byte is below 256), at most 4,096 bytes written
pub record Writable (xs : List Bytes) : Type 0 where
  pub few : length xs ≤ 256
  pub bytes : all (between 1 0xFF) (bytes_of xs) ≡ true
  pub short : length (written xs) ≤ 4096

-- written and then split, the list comes back
abbrev pub RoundTrip : Type 0
RoundTrip = (xs : List Bytes) → Writable xs → split_of (written xs) ≡ accepted xs

-- two lists with the same written form are the same list
abbrev pub SameWritten : Type 0
SameWritten = (xs ys : List Bytes) → Writable xs → Writable ys → written xs ≡ written ys → xs ≡ ys

-- ---- bytes and ends

-- what ends cut out of bytes, laid out again: the bytes up to the last end, and the same ends
pub record LaidAgain (bs : Bytes) (ends : List ℕ) : Type 0 where
  pub bytes : bytes_of (items_in bs ends) ≡ take (last_end 0 ends) bs
  pub ends_again : ends_from 0 (items_in bs ends) ≡ ends
  pub count : length (items_in bs ends) ≡ length ends
  pub inside : last_end 0 ends ≤ length bs

-- where the ends fit
abbrev pub CutLaidAgain : Type 0
CutLaidAgain = (bs : Bytes) (ends : List ℕ) → ends_fit 0 (length bs) ends ≡ true → LaidAgain bs ends

-- items laid out as bytes and ends are cut out again
abbrev pub LaidCutAgain : Type 0
LaidCutAgain = (xs : List Bytes)
    → (ends_fit 0 (length (bytes_of xs)) (ends_from 0 xs) ≡ true) × (items_in (bytes_of xs) (ends_from 0 xs) ≡ xs)

-- ---- the verdicts on calls

-- the lent list is written where the buffer has room, the ends fit, and the items can be written
abbrev pub WriteAccepted : Type 0
WriteAccepted = (out : ℕ) (bs : Bytes) (ends : List ℕ) → 4096 ≤ out → ends_fit 0 (length bs) ends ≡ true → Writable (items_in bs ends)
    → write_in out bs ends ≡ accepted (written (items_in bs ends))

-- what an accepted list has, and what its text is
pub record WriteHas (out : ℕ) (bs : Bytes) (ends : List ℕ) (t : Bytes) : Type 0 where
  pub space : 4096 ≤ out
  pub few : length ends ≤ 256
  pub fit : ends_fit 0 (length bs) ends ≡ true
  pub no_nul : any nul (bytes_of (items_in bs ends)) ≡ false
  pub text : t ≡ written (items_in bs ends)
  pub short : length t ≤ 4096

-- every accepted list has this
abbrev pub AcceptedHas : Type 0
AcceptedHas = (out : ℕ) (bs : Bytes) (ends : List ℕ) (t : Bytes) → write_in out bs ends ≡ accepted t → WriteHas out bs ends t

-- with buffers that are long enough, a text is split as it is
abbrev pub EnoughSpace : Type 0
EnoughSpace = (b e : ℕ) (t : Bytes) → 4096 ≤ b → 256 ≤ e → split_in b e t ≡ split_of t
