-- `havtsulen_read`: a short report, or what the function below it has answered.
use native.Mathlib.Omega.{arith}
use Rattle.havtsulen.proofs.FileCalls.{read_short, read_told}
use Rattle.havtsulen.proofs.files.havtsulen_read.Goals as goal

pub returns-then-report-lt-REPORT_NUMBERS : goal.returns-then-report-lt-REPORT_NUMBERS
returns-then-report-lt-REPORT_NUMBERS c =
    let a = c.args in read_short a.file.now a.text.now a.sections.now a.entries.now a.report.now (omega (arith, c.if-report-lt-REPORT_NUMBERS.true))

pub returns : goal.returns
returns c = let a = c.args in read_told a.file.now a.text.now a.sections.now a.entries.now a.report.now c.if-report-lt-REPORT_NUMBERS.false _ _ _ _ c.read.ensures _ _ c.tell.ensures
