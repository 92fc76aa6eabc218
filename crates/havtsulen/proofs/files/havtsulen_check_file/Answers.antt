-- `havtsulen_check_file`: a short report, or what the function below it has answered.
use native.Mathlib.Omega.{arith}
use Rattle.havtsulen.proofs.FileCalls.{check_short, check_told}
use Rattle.havtsulen.proofs.files.havtsulen_check_file.Goals as goal

pub returns-then-report-lt-REPORT_NUMBERS : goal.returns-then-report-lt-REPORT_NUMBERS
returns-then-report-lt-REPORT_NUMBERS c =
    let a = c.args in check_short a.file.now a.report.now (omega (arith, c.if-report-lt-REPORT_NUMBERS.true))

pub returns : goal.returns
returns c = let a = c.args in check_told a.file.now a.report.now c.if-report-lt-REPORT_NUMBERS.false _ c.check_file.ensures _ _ c.tell.ensures
