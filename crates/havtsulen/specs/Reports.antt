-- What a caller in C is told of an outcome: a number as the answer, and four numbers in a report.
use Rattle.std.specs.Prelude.{◌≡◌, ℕ, Bool, true, false, cond, List, [], ◌∷◌, length, ltb, eqb, Result, Ok, Err}
use Rattle.lines.specs.Answers.{Outcome, accepted, refused}
use Rattle.lines.specs.Buffers.{filled}

-- the answer: 0 for accepted, or the number of the refusal
abbrev pub answered : {A : Type 0} → Outcome A → ℕ
answered (accepted x) = 0
answered (refused n p) = n

-- whether it is accepted
abbrev pub is_accepted : {A : Type 0} → Outcome A → Bool
is_accepted (accepted x) = true
is_accepted (refused n p) = false

-- what an answer of the code means, where these are the number and the place of a refusal
abbrev pub outcome_of : {A E : Type 0} → (number place : E → ℕ) → Result A E → Outcome A
outcome_of number place (Ok x) = accepted x
outcome_of number place (Err e) = refused (number e) (place e)

-- the four numbers of a report
abbrev pub four : (a b c d : ℕ) → List ℕ
four a b c d = a ∷ b ∷ c ∷ d ∷ []

-- those of an outcome: what was accepted, as `told` lays it out, or the place of the refusal
abbrev pub reported : {A : Type 0} → (told : A → List ℕ) → Outcome A → List ℕ
reported told (accepted x) = told x
reported told (refused n p) = four p 0 0 0

-- a report is too short where it has fewer than four numbers
unfoldable pub is_short : (report : List ℕ) → Bool
is_short report = ltb (length report) 4

-- an outcome with a report: one that is too short is 1, before everything
unfoldable pub with_report : {A : Type 0} → (report : List ℕ) → Outcome A → Outcome A
unfolding is_short
with_report report o = cond (is_short report) (refused 1 0) o

-- the report afterwards: the four numbers in front, and the rest as it was; one that is too short stays as it was
unfoldable pub report_after : (numbers : List ℕ) → List ℕ → List ℕ
unfolding is_short
report_after numbers report = cond (is_short report) report (filled numbers report)

-- what a call answers and leaves in the report, where this is the outcome; the answer is 0 exactly for accepted
pub record Reports {A : Type 0} (told : A → List ℕ) (o : Outcome A) (report : List ℕ) (r : ℕ) (report' : List ℕ) : Type 0 where
  pub answer : r ≡ answered o
  pub decides : eqb r 0 ≡ is_accepted o
  pub new_report : report' ≡ report_after (reported told o) report
