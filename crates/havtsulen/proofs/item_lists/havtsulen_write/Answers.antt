-- `havtsulen_write`: a short report, or what the function below it has answered.
use native.Mathlib.Omega.{arith}
use Rattle.havtsulen.proofs.ListCalls.{write_short, write_told}
use Rattle.havtsulen.proofs.item_lists.havtsulen_write.Goals as goal

pub returns-then-report-lt-REPORT_NUMBERS : goal.returns-then-report-lt-REPORT_NUMBERS
returns-then-report-lt-REPORT_NUMBERS c =
    let a = c.args in write_short a.bytes.now a.ends.now a.out.now a.report.now (omega (arith, c.if-report-lt-REPORT_NUMBERS.true))

pub returns : goal.returns
returns c = let a = c.args in write_told a.bytes.now a.ends.now a.out.now a.report.now c.if-report-lt-REPORT_NUMBERS.false _ _ c.write.ensures _ _ c.tell.ensures
