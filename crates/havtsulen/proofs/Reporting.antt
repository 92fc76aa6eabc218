-- What is reported for an outcome: nothing in a short report, and what `tell` has put into any other.
use mathlib.Core.Path.{◌≡◌, refl, sym, ap, subst, ◌∙◌}
use Prim.Native.Nat.{ℕ, ◌≤◌, ◌<◌}
use mathlib.Core.Bool.{false}
use mathlib.Core.List.{List, [], ◌∷◌}
use lib.ListN.{length, get_or}
use native.Mathlib.Omega.{arith}
use lib.Dec.{eqb}
use borrow.Author.Tests.{lt-ltb, le-ltb}
use Rattle.lines.specs.Answers.{Outcome, accepted, refused}
use Rattle.lines.specs.Buffers.{filled}
use Rattle.std.specs.Prelude.{Result, Ok, Err}
use Rattle.havtsulen.specs.Steps.{Replies}
use Rattle.havtsulen.specs.Reports.{outcome_of, four, is_short, with_report, report_after, Reports}

-- ---- the report is judged before everything

pub with_short : {A : Type 0} (report : List ℕ) (o : Outcome A) → length report < 4 → with_report report o ≡ refused 1 0
unfolding with_report is_short
with_short report o h = rw (lt-ltb (length report) 4 h)

pub with_long : {A : Type 0} (report : List ℕ) (o : Outcome A) → 4 ≤ length report → with_report report o ≡ o
unfolding with_report is_short
with_long report o h = rw (le-ltb (length report) 4 h)

-- ---- reports

module _ {A : Type 0} (told : A → List ℕ) (o : Outcome A) (report : List ℕ) where
  -- a short one is left as it was
  pub short : length report < 4 → o ≡ refused 1 0 → Reports told o report 1 report
  unfolding report_after is_short
  short h e =
      subst (λ (v : Outcome A). Reports told v report 1 report) (sym e)
      (record { answer = refl; decides = refl; new_report = rw (lt-ltb (length report) 4 h) })

-- ---- what `tell` answers

-- what is put into a report that is not short
after : (report : List ℕ) → 4 ≤ length report → (ns report' : List ℕ) → report' ≡ filled ns report → report' ≡ report_after ns report
unfolding report_after is_short
after report h ns report' p = p ∙ rw (le-ltb (length report) 4 h)

pub after_long : (report : List ℕ) → 4 ≤ length report → (ns : List ℕ) → report_after ns report ≡ filled ns report
after_long report h ns = sym (after report h ns (filled ns report) refl)

module _ {A : Type 0} (told : A → List ℕ) (report : List ℕ) (h : 4 ≤ length report) where
  pub accepts_put : (x : A) (ns report' : List ℕ) → ns ≡ told x → report' ≡ filled ns report → Reports told (accepted x) report 0 report'
  accepts_put x ns report' t p = record { answer = refl; decides = refl; new_report = after report h (told x) report' (p ∙ ap (λ (n : List ℕ). filled n report) t) }

  pub refuses_put : (n p r place : ℕ) (report' : List ℕ) → eqb n 0 ≡ false → r ≡ n → place ≡ p → report' ≡ filled (four place 0 0 0) report
      → Reports told (refused n p) report r report'
  refuses_put n p r place report' z i j q =
      record {
        answer = i;
        decides = ap (λ (m : ℕ). eqb m 0) i ∙ z;
        new_report = after report h (four p 0 0 0) report' (q ∙ ap (λ (m : ℕ). filled (four m 0 0 0) report) j);
      }

-- ---- from an answer to the outcome that it means

pub meaning : {A E : Type 0} (number place : E → ℕ) (means : Result A E → Outcome A)
    → ((x : A) → means (Ok x) ≡ accepted x) → ((e : E) → means (Err e) ≡ refused (number e) (place e))
    → (a : Result A E) → outcome_of number place a ≡ means a
meaning number place means ok err (Ok x) = sym (ok x)
meaning number place means ok err (Err e) = sym (err e)

-- what is told of an answer is told of the outcome
pub said : {A : Type 0} (told : A → List ℕ) (o o' : Outcome A) → o ≡ o' → (report : List ℕ) (r : ℕ) (report' : List ℕ)
    → Reports told o report r report' → Reports told o' report r report'
said {A} told o o' e report r report' p = subst (λ (v : Outcome A). Reports told v report r report') e p

-- ---- replies: a number as the answer, and four numbers in the report

-- four numbers, one by one
pub four_numbers : (ns : List ℕ) → length ns ≡ 4 → ns ≡ four (get_or ns 0 0) (get_or ns 1 0) (get_or ns 2 0) (get_or ns 3 0)
four_numbers [] h = absurd (omega arith)
four_numbers (a ∷ []) h = absurd (omega arith)
four_numbers (a ∷ b ∷ []) h = absurd (omega arith)
four_numbers (a ∷ b ∷ c ∷ []) h = absurd (omega arith)
four_numbers (a ∷ b ∷ c ∷ d ∷ []) h = refl
four_numbers (a ∷ b ∷ c ∷ d ∷ e ∷ ns) h = absurd (omega arith)

-- what is reported of a number alone is a reply
pub reply_of : (n : ℕ) (report : List ℕ) → 4 ≤ length report → (told : ℕ → List ℕ) → told n ≡ four n 0 0 0 → (r : ℕ) (report' : List ℕ)
    → Reports told (accepted n) report r report' → Replies 0 n 0 0 0 report r report'
reply_of n report h told t r report' p =
    record { answer = p.answer; new_report = p.new_report ∙ after_long report h (told n) ∙ ap (λ (ns : List ℕ). filled ns report) t }

module _ {A : Type 0} (told : A → List ℕ) (o : Outcome A) (report : List ℕ) (h : 4 ≤ length report) (r : ℕ) (report' : List ℕ) where
  -- a reply for what was accepted
  pub accepts : (x : A) → accepted x ≡ o → (a b c d : ℕ) → told x ≡ four a b c d → Replies 0 a b c d report r report' → Reports told o report r report'
  accepts x e a b c d t p = rw (sym e, p.answer) (accepts_put told report h x (four a b c d) report' (sym t) p.new_report)

  -- a reply for a refusal
  pub refuses : (n p : ℕ) → refused n p ≡ o → eqb n 0 ≡ false → (number place : ℕ) → number ≡ n → place ≡ p
      → Replies number place 0 0 0 report r report' → Reports told o report r report'
  refuses n p e z number place i j q =
      rw (sym e) (refuses_put told report h n p r place report' z (q.answer ∙ i) j q.new_report)

-- the same of an answer of the code: of what was accepted
pub replied : {A E : Type 0} (told : A → List ℕ) (number place : E → ℕ) (x : A) (report : List ℕ) → 4 ≤ length report → (a b c d : ℕ) → told x ≡ four a b c d
    → (v : Result A E) → v ≡ Ok x → (r : ℕ) (report' : List ℕ) → Replies 0 a b c d report r report' → Reports told (outcome_of number place v) report r report'
replied told number place x report h a b c d t v known r report' p =
    accepts told (outcome_of number place v) report h r report' x (sym (ap (outcome_of number place) known)) a b c d t p

-- and of a refusal
pub replied_refusal : {A E : Type 0} (told : A → List ℕ) (number_of place_of : E → ℕ) (x : E) → eqb (number_of x) 0 ≡ false
    → (report : List ℕ) → 4 ≤ length report → (v : Result A E) → v ≡ Err x → (number place : ℕ) → number ≡ number_of x → place ≡ place_of x
    → (r : ℕ) (report' : List ℕ) → Replies number place 0 0 0 report r report' → Reports told (outcome_of number_of place_of v) report r report'
replied_refusal told number_of place_of x z report h v known number place i j r report' p =
    refuses told (outcome_of number_of place_of v) report h r report' (number_of x) (place_of x) (sym (ap (outcome_of number_of place_of) known)) z number place i j p
