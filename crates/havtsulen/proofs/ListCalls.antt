-- Lists of items.
use mathlib.Core.Path.{◌≡◌, refl, sym, ap, subst, ◌∙◌}
use Prim.Native.Nat.{ℕ, ◌≤◌, ◌<◌}
use mathlib.Core.List.{List}
use lib.ListN.{length}
use Rattle.std.specs.Prelude.{Result}
use Rattle.lines.specs.Bytes.{Bytes}
use Rattle.lines.specs.Answers.{Outcome}
use Rattle.items.specs.Split.{split_in}
use Rattle.items.specs.Write.{write_in}
use Rattle.items.specs.Answers.{number_of, place_of, split_means, counted, ItemsLeft, Splits}
use Rattle.items.specs.declared.error.Error.{Error}
use Rattle.items.specs.declared.splitter.Counts.{Counts}
use Rattle.items.proofs.SplitCalls.{items_kept}
use Rattle.item_writer.specs.Answers.{write_means, measured, text_after, Writes}
use Rattle.havtsulen.specs.Reports.{outcome_of, with_report, Reports}
use Rattle.havtsulen.specs.Answers.{number_told, items_told, ReportsSplit, ReportsWrite}
use Rattle.std.specs.Prelude.{Ok, Err}
use Rattle.havtsulen.specs.Steps.{Replies}
use Rattle.havtsulen.proofs.Numbers.{item_number}
use Rattle.havtsulen.proofs.Reporting.{replied, replied_refusal, with_short, with_long, short, meaning, said}

-- ---- splitting

module _ (text bytes : Bytes) (ends report : List ℕ) where
  abbrev split_outcome : Outcome (List Bytes)
  split_outcome = split_in (length bytes) (length ends) text

  pub split_short : length report < 4 → ReportsSplit text bytes ends report 1 bytes ends report
  split_short h =
      let e = with_short report split_outcome h in
      record {
        reports = short items_told _ report h (ap counted e);
        left = items_kept _ 1 0 e bytes ends;
      }

  -- the buffers are as the call has left them
  pub split_told : 4 ≤ length report → (a : Result Counts Error) (bytes' : Bytes) (ends' : List ℕ) → Splits text bytes ends a bytes' ends'
      → (r : ℕ) (report' : List ℕ) → Reports items_told (outcome_of number_of place_of a) report r report'
      → ReportsSplit text bytes ends report r bytes' ends' report'
  split_told h a bytes' ends' made r report' p =
      let same : split_outcome ≡ with_report report split_outcome = sym (with_long report split_outcome h) in
      record {
        reports = said items_told _ _ (meaning number_of place_of split_means (λ x. refl) (λ x. refl) a ∙ made.answer ∙ ap counted same) report r report' p;
        left = subst (λ (o : Outcome (List Bytes)). ItemsLeft o bytes ends bytes' ends') same made.left;
      }

-- ---- writing

module _ (bytes : Bytes) (ends : List ℕ) (out : Bytes) (report : List ℕ) where
  abbrev write_outcome : Outcome Bytes
  write_outcome = write_in (length out) bytes ends

  pub write_short : length report < 4 → ReportsWrite bytes ends out report 1 out report
  write_short h =
      let e = with_short report write_outcome h in
      record {
        reports = short number_told _ report h (ap measured e);
        new_out = ap (λ (o : Outcome Bytes). text_after o out) (sym e);
      }

  -- the buffer is as the call has left it
  pub write_told : 4 ≤ length report → (a : Result ℕ Error) (out' : Bytes) → Writes bytes ends out a out' → (r : ℕ) (report' : List ℕ)
      → Reports number_told (outcome_of number_of place_of a) report r report' → ReportsWrite bytes ends out report r out' report'
  write_told h a out' made r report' p =
      let same : write_outcome ≡ with_report report write_outcome = sym (with_long report write_outcome h) in
      record {
        reports = said number_told _ _ (meaning number_of place_of write_means (λ x. refl) (λ x. refl) a ∙ made.answer ∙ ap measured same) report r report' p;
        new_out = made.new_out ∙ ap (λ (o : Outcome Bytes). text_after o out) same;
      }

-- ---- the same from a reply, for what is accepted and for a refusal

module _ (text bytes : Bytes) (ends report : List ℕ) (h : 4 ≤ length report) (a : Result Counts Error) (bytes' : Bytes) (ends' : List ℕ)
    (made : Splits text bytes ends a bytes' ends') (r : ℕ) (report' : List ℕ) where
  pub split_accepted : (n m : ℕ) → a ≡ Ok (record { items = n; bytes = m }) → Replies 0 n m 0 0 report r report'
      → ReportsSplit text bytes ends report r bytes' ends' report'
  split_accepted n m known p =
      split_told text bytes ends report h a bytes' ends' made r report'
      (replied items_told number_of place_of (record { items = n; bytes = m }) report h n m 0 0 refl a known r report' p)

  pub split_refused : (x : Error) → a ≡ Err x → (number place : ℕ) → number ≡ number_of x → place ≡ place_of x
      → Replies number place 0 0 0 report r report' → ReportsSplit text bytes ends report r bytes' ends' report'
  split_refused x known number place i j p =
      split_told text bytes ends report h a bytes' ends' made r report'
      (replied_refusal items_told number_of place_of x (item_number x) report h a known number place i j r report' p)

module _ (bytes : Bytes) (ends : List ℕ) (out : Bytes) (report : List ℕ) (h : 4 ≤ length report) (a : Result ℕ Error) (out' : Bytes)
    (made : Writes bytes ends out a out') (r : ℕ) (report' : List ℕ) where
  pub write_accepted : (n : ℕ) → a ≡ Ok n → Replies 0 n 0 0 0 report r report' → ReportsWrite bytes ends out report r out' report'
  write_accepted n known p =
      write_told bytes ends out report h a out' made r report' (replied number_told number_of place_of n report h n 0 0 0 refl a known r report' p)

  pub write_refused : (x : Error) → a ≡ Err x → (number place : ℕ) → number ≡ number_of x → place ≡ place_of x
      → Replies number place 0 0 0 report r report' → ReportsWrite bytes ends out report r out' report'
  write_refused x known number place i j p =
      write_told bytes ends out report h a out' made r report'
      (replied_refusal number_told number_of place_of x (item_number x) report h a known number place i j r report' p)
