-- `havtsulen_split`: a short report, or what the function below it has answered.
use native.Mathlib.Omega.{arith}
use Rattle.havtsulen.proofs.ListCalls.{split_short, split_told}
use Rattle.havtsulen.proofs.item_lists.havtsulen_split.Goals as goal

pub returns-then-report-lt-REPORT_NUMBERS : goal.returns-then-report-lt-REPORT_NUMBERS
returns-then-report-lt-REPORT_NUMBERS c =
    let a = c.args in split_short a.text.now a.bytes.now a.ends.now a.report.now (omega (arith, c.if-report-lt-REPORT_NUMBERS.true))

pub returns : goal.returns
returns c = let a = c.args in split_told a.text.now a.bytes.now a.ends.now a.report.now c.if-report-lt-REPORT_NUMBERS.false _ _ _ c.split.ensures _ _ c.tell.ensures
