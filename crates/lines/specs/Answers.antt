-- What an answer means in the rules: a result, or the number and the place of one refusal.
use mathlib.Core.Path.{refl}
use Rattle.std.specs.Prelude.{ℕ, ◌≡◌, false, eqb}
use Rattle.lines.specs.declared.error.Error.{Error}
use Rattle.lines.specs.declared.error.Error.TheVariants.{ShortBuffer, FileTooLong, NotUtf8, ControlByte, LineTooLong}

-- accepted with a result, or refused with a number and a place
pub data Outcome (A : Type 0) : Type 0 where
  accepted : A → Outcome A
  refused : ℕ → ℕ → Outcome A

-- the refusals 1 to 5: number
abbrev pub number_of : Error → ℕ
number_of ShortBuffer = 1
number_of FileTooLong = 2
number_of (NotUtf8 n) = 3
number_of (ControlByte n) = 4
number_of (LineTooLong n) = 5

-- and place
abbrev pub place_of : Error → ℕ
place_of ShortBuffer = 0
place_of FileTooLong = 0
place_of (NotUtf8 n) = n
place_of (ControlByte n) = n
place_of (LineTooLong n) = n

-- none has the number 0
pub never_0 : (e : Error) → eqb (number_of e) 0 ≡ false
never_0 ShortBuffer = refl
never_0 FileTooLong = refl
never_0 (NotUtf8 n) = refl
never_0 (ControlByte n) = refl
never_0 (LineTooLong n) = refl

-- an error is a refusal
abbrev pub error_means : {A : Type 0} → Error → Outcome A
error_means e = refused (number_of e) (place_of e)
