-- Booleans and time spans.
use mathlib.Core.Path.{◌≡◌, refl, sym, ◌∙◌}
use Prim.Native.Nat.{ℕ, ◌≤◌, ◌<◌}
use mathlib.Core.Bool.{Bool}
use mathlib.Core.List.{List}
use lib.ListN.{length}
use Rattle.std.specs.Prelude.{Result}
use Rattle.lines.specs.Bytes.{Bytes}
use Rattle.values.specs.Booleans.{boolean_of}
use Rattle.values.specs.Spans.{span_of}
use Rattle.values.specs.Answers.{number_of, place_of, boolean_means, span_means}
use Rattle.values.specs.declared.error.Error.{Error}
use Rattle.havtsulen.specs.Reports.{outcome_of, Reports}
use Rattle.havtsulen.specs.Answers.{number_told, truth_told, ReportsBoolean, ReportsSpan}
use Rattle.std.specs.Prelude.{Ok, Err}
use Rattle.havtsulen.specs.Steps.{Replies}
use mathlib.Core.Bool.{cond}
use mathlib.Core.Path.{ap}
use Rattle.havtsulen.specs.Reports.{four}
use Rattle.havtsulen.proofs.Numbers.{value_number}
use Rattle.havtsulen.proofs.Reporting.{replied, replied_refusal, with_short, with_long, short, meaning, said}

module _ (text : Bytes) (report : List ℕ) where
  pub boolean_short : length report < 4 → ReportsBoolean text report 1 report
  boolean_short h = short truth_told _ report h (with_short report (boolean_of text) h)

  pub boolean_told : 4 ≤ length report → (a : Result Bool Error) → boolean_means a ≡ boolean_of text → (r : ℕ) (report' : List ℕ)
      → Reports truth_told (outcome_of number_of place_of a) report r report' → ReportsBoolean text report r report'
  boolean_told h a e =
      said truth_told _ _ (meaning number_of place_of boolean_means (λ x. refl) (λ x. refl) a ∙ e ∙ sym (with_long report (boolean_of text) h)) report

  pub span_short : length report < 4 → ReportsSpan text report 1 report
  span_short h = short number_told _ report h (with_short report (span_of text) h)

  pub span_told : 4 ≤ length report → (a : Result ℕ Error) → span_means a ≡ span_of text → (r : ℕ) (report' : List ℕ)
      → Reports number_told (outcome_of number_of place_of a) report r report' → ReportsSpan text report r report'
  span_told h a e =
      said number_told _ _ (meaning number_of place_of span_means (λ x. refl) (λ x. refl) a ∙ e ∙ sym (with_long report (span_of text) h)) report

-- ---- the same from a reply, for what is accepted and for a refusal

module _ (text : Bytes) (report : List ℕ) (h : 4 ≤ length report) (a : Result Bool Error) (e : boolean_means a ≡ boolean_of text) (r : ℕ) (report' : List ℕ) where
  pub boolean_accepted : (b : Bool) → a ≡ Ok b → (n : ℕ) → n ≡ cond b 1 0 → Replies 0 n 0 0 0 report r report' → ReportsBoolean text report r report'
  boolean_accepted b known n q p =
      boolean_told text report h a e r report'
      (replied truth_told number_of place_of b report h n 0 0 0 (ap (λ (m : ℕ). four m 0 0 0) (sym q)) a known r report' p)

  pub boolean_refused : (x : Error) → a ≡ Err x → (number place : ℕ) → number ≡ number_of x → place ≡ place_of x
      → Replies number place 0 0 0 report r report' → ReportsBoolean text report r report'
  boolean_refused x known number place i j p =
      boolean_told text report h a e r report' (replied_refusal truth_told number_of place_of x (value_number x) report h a known number place i j r report' p)

module _ (text : Bytes) (report : List ℕ) (h : 4 ≤ length report) (a : Result ℕ Error) (e : span_means a ≡ span_of text) (r : ℕ) (report' : List ℕ) where
  pub span_accepted : (n : ℕ) → a ≡ Ok n → Replies 0 n 0 0 0 report r report' → ReportsSpan text report r report'
  span_accepted n known p =
      span_told text report h a e r report' (replied number_told number_of place_of n report h n 0 0 0 refl a known r report' p)

  pub span_refused : (x : Error) → a ≡ Err x → (number place : ℕ) → number ≡ number_of x → place ≡ place_of x
      → Replies number place 0 0 0 report r report' → ReportsSpan text report r report'
  span_refused x known number place i j p =
      span_told text report h a e r report' (replied_refusal number_told number_of place_of x (value_number x) report h a known number place i j r report' p)
