-- `havtsulen_boolean`: a short report, or what the function below it has answered.
use native.Mathlib.Omega.{arith}
use Rattle.havtsulen.proofs.ValueCalls.{boolean_short, boolean_told}
use Rattle.havtsulen.proofs.settings.havtsulen_boolean.Goals as goal

pub returns-then-report-lt-REPORT_NUMBERS : goal.returns-then-report-lt-REPORT_NUMBERS
returns-then-report-lt-REPORT_NUMBERS c =
    let a = c.args in boolean_short a.text.now a.report.now (omega (arith, c.if-report-lt-REPORT_NUMBERS.true))

pub returns : goal.returns
returns c = let a = c.args in boolean_told a.text.now a.report.now c.if-report-lt-REPORT_NUMBERS.false _ c.boolean.ensures _ _ c.tell.ensures
