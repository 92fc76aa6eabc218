-- `span` answers by what it finds in the trimmed text: nothing, digits alone, or parts (`Verdict`).
use mathlib.Core.Path.{sym, ◌∙◌}
use native.Mathlib.Omega.{arith}
use Rattle.std.proofs.Common.{rules}
use Rattle.std.proofs.lemmas.Bool.Decides.{nat_tests}
use Rattle.std.proofs.lemmas.Result.{err_from_is_err_and}
use Rattle.lines.specs.Bytes.{digit}
use Rattle.lines.proofs.Trimming.{trimmed_start}
use Rattle.values.proofs.Longest.{Run, run_found}
use Rattle.values.proofs.Verdict.{span_empty, span_seconds, span_total, span_wrong, judged}
use Rattle.values.proofs.spans.span.Goals as goal
use Rattle.values.proofs.spans.span.Goals.{After-split_start, then-is_empty-2, else-is_empty-2+in_ok-total}

digits_run : (c : After-split_start) → Run digit c.trim-trimmed.result.now c.split_start.result.0.now c.split_start.result.1.now
digits_run c = run_found digit _ _ _ _ c.split_start.ensures (λ b r h. search rules)

pub returns-then-is_empty : goal.returns-then-is_empty
returns-then-is_empty c = sym (span_empty _ _ c.trim-trimmed.ensures (grind (arith, nat_tests)))

pub number-requires : goal.number-requires
number-requires c = (digits_run (goal.at.number-requires c).After-split_start).pass

pub sum_parts-requires : goal.sum_parts-requires
sum_parts-requires c = rw c.trim-trimmed.ensures (trimmed_start _)

pub returns-in_err-total : goal.returns-in_err-total
returns-in_err-total c =
    let p = err_from_is_err_and c.from_residual.result c.from_residual.ensures.1 in
    let run = digits_run (goal.at.returns-in_err-total c).After-split_start in
    rw (p.1, p.2, c.in_err-total.ensures.0)
    (sym (span_wrong _ _ _ _ c.trim-trimmed.ensures (grind (arith, nat_tests)) run (grind (arith, nat_tests)) c.in_err-total.ensures.1))

pub returns : goal.returns
returns c =
    let run = digits_run (goal.at.returns c).After-split_start in
    elim c.if-is_empty-2.branch [
      | then-is_empty-2 w ↦
          rw (c.ok_or.ensures.value, w.total-is)
          (judged _ _ (search rules) (w.times-total.ensures _ w.number.ensures)
          ∙ sym (span_seconds _ _ _ _ c.trim-trimmed.ensures (grind (arith, nat_tests)) run (grind (arith, nat_tests))))
      | else-is_empty-2+in_ok-total w ↦
          rw (c.ok_or.ensures.value, w.total-is)
          (judged _ _ (search rules) w.in_ok-total.ensures.total
          ∙ sym (span_total _ _ _ _ c.trim-trimmed.ensures (grind (arith, nat_tests)) run _ (grind (arith, nat_tests)) w.in_ok-total.ensures))
    ]
