-- `havtsulen_value`: a short report, or what the function below it has answered.
use native.Mathlib.Omega.{arith}
use Rattle.lookup.specs.Decoding.{lent}
use Rattle.havtsulen.proofs.QuestionCalls.{value_short, value_reported}
use Rattle.havtsulen.proofs.questions.havtsulen_value.Goals as goal

pub returns-then-report-lt-REPORT_NUMBERS : goal.returns-then-report-lt-REPORT_NUMBERS
returns-then-report-lt-REPORT_NUMBERS c =
    let a = c.args in value_short (lent a.text.now a.sections.now a.section_count a.entries.now a.entry_count) a.index a.report.now (omega (arith, c.if-report-lt-REPORT_NUMBERS.true))

pub returns : goal.returns
returns c = let a = c.args in value_reported (lent a.text.now a.sections.now a.section_count a.entries.now a.entry_count) a.index a.report.now c.if-report-lt-REPORT_NUMBERS.false _ c.value_check.ensures _ c.or.ensures _ _ c.tell.ensures
