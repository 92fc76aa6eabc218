-- `havtsulen_normal_text`: a short report, or what the function below it has answered.
use native.Mathlib.Omega.{arith}
use Rattle.havtsulen.proofs.FileCalls.{normal_short, normal_told}
use Rattle.havtsulen.proofs.files.havtsulen_normal_text.Goals as goal

pub returns-then-report-lt-REPORT_NUMBERS : goal.returns-then-report-lt-REPORT_NUMBERS
returns-then-report-lt-REPORT_NUMBERS c =
    let a = c.args in normal_short a.file.now a.text.now a.sections.now a.entries.now a.out.now a.report.now (omega (arith, c.if-report-lt-REPORT_NUMBERS.true))

pub returns : goal.returns
returns c = let a = c.args in normal_told a.file.now a.text.now a.sections.now a.entries.now a.out.now a.report.now c.if-report-lt-REPORT_NUMBERS.false _ _ _ _ _ c.normal_text.ensures _ _ c.tell.ensures
