-- What the answers of the calls mean in the rules, and what they promise.
use mathlib.Core.Path.{refl}
use Rattle.std.specs.Prelude.{◌≡◌, ℕ, ◌+◌, [], Result, Ok, Err, false, eqb}
use Rattle.lines.specs.Bytes.{Bytes}
use Rattle.lines.specs.Answers.{Outcome, accepted, refused}
use Rattle.lookup.specs.Decoding.{Lent}
use Rattle.lookup.specs.Questions.{Part, value_in, part_in}
use Rattle.lookup.specs.declared.error.Error.{Error}
use Rattle.lookup.specs.declared.error.Error.TheVariants.{NoEntry, FaultyRecord}
use Rattle.lookup.specs.declared.values.Part as declared

-- ---- refusals

-- the refusals 40 and 41: number
abbrev pub number_of : Error → ℕ
number_of NoEntry = 40
number_of FaultyRecord = 41

-- and place
abbrev pub place_of : Error → ℕ
place_of NoEntry = 0
place_of FaultyRecord = 0

-- none has the number 0
pub never_0 : (e : Error) → eqb (number_of e) 0 ≡ false
never_0 NoEntry = refl
never_0 FaultyRecord = refl

-- an error is a refusal
abbrev pub error_means : {A : Type 0} → Error → Outcome A
error_means e = refused (number_of e) (place_of e)

-- ---- answers

-- what the answer of `find` means: an index
abbrev pub find_means : Result ℕ Error → Outcome ℕ
find_means (Ok i) = accepted i
find_means (Err e) = error_means e

-- a part of the text
abbrev pub part_means : declared.Part → Part
part_means p = record { start = p.start; size = p.length }

-- what the answer of `value_check` means: a part of the text
abbrev pub value_means : Result declared.Part Error → Outcome Part
value_means (Ok p) = accepted (part_means p)
value_means (Err e) = error_means e

-- ---- the part that `value` hands back

-- the value, no bytes where there is none
abbrev pub bytes_or : Outcome Bytes → Bytes
bytes_or (accepted v) = v
bytes_or (refused n p) = []

-- its part of the text, the part of length 0 at the start where there is none
abbrev pub part_or : Outcome Part → Part
part_or (accepted p) = p
part_or (refused n p) = record { start = 0; size = 0 }

-- The promise of `value`: the bytes of the entry's value, and they are a part of the text buffer itself; where there is
-- none, the part of length 0 at its start. A slice lies in a block of memory from an offset on: `text_at` is where the lent
-- text lies, and `result_at` where the slice handed back does.
pub record HandsBack (b : Lent) (i : ℕ) (text_at result_at : ℕ × ℕ) (r : Bytes) : Type 0 where
  pub bytes : r ≡ bytes_or (value_in b i)
  pub block : result_at.0 ≡ text_at.0
  pub offset : result_at.1 ≡ text_at.1 + (part_or (part_in b i)).start
