-- What the answers mean in the rules.
use mathlib.Core.Path.{refl}
use Rattle.std.specs.Prelude.{ℕ, Bool, Result, Ok, Err, ◌≡◌, false, eqb}
use Rattle.lines.specs.Answers.{Outcome, accepted, refused}
use Rattle.values.specs.declared.error.Error.{Error}
use Rattle.values.specs.declared.error.Error.TheVariants.{NoBoolean, SpanForm, SpanTooLarge}

-- the refusals 30 to 32: number
abbrev pub number_of : Error → ℕ
number_of NoBoolean = 30
number_of SpanForm = 31
number_of SpanTooLarge = 32

-- and place
abbrev pub place_of : Error → ℕ
place_of NoBoolean = 0
place_of SpanForm = 0
place_of SpanTooLarge = 0

-- none has the number 0
pub never_0 : (e : Error) → eqb (number_of e) 0 ≡ false
never_0 NoBoolean = refl
never_0 SpanForm = refl
never_0 SpanTooLarge = refl

-- an error is a refusal
abbrev pub error_means : {A : Type 0} → Error → Outcome A
error_means e = refused (number_of e) (place_of e)

-- an answer about a boolean: its truth, or the refusal
abbrev pub boolean_means : Result Bool Error → Outcome Bool
boolean_means (Ok b) = accepted b
boolean_means (Err e) = error_means e

-- an answer about a span: its microseconds, or the refusal
abbrev pub span_means : Result ℕ Error → Outcome ℕ
span_means (Ok n) = accepted n
span_means (Err e) = error_means e
