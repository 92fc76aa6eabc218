-- `havtsulen_well_formed_length`: a short report, or what the function below it has answered.
use mathlib.Core.Path.{refl}
use native.Mathlib.Omega.{arith}
use Rattle.havtsulen.specs.Answers.{number_told}
use Rattle.havtsulen.proofs.Reporting.{reply_of}
use Rattle.havtsulen.proofs.FileCalls.{length_short, length_told}
use Rattle.havtsulen.proofs.files.havtsulen_well_formed_length.Goals as goal

pub returns-then-report-lt-REPORT_NUMBERS : goal.returns-then-report-lt-REPORT_NUMBERS
returns-then-report-lt-REPORT_NUMBERS c =
    let a = c.args in length_short a.text.now a.report.now (omega (arith, c.if-report-lt-REPORT_NUMBERS.true))

pub returns : goal.returns
returns c = let a = c.args in length_told a.text.now a.report.now c.if-report-lt-REPORT_NUMBERS.false _ c.well_formed_length.ensures _ _
    (reply_of _ a.report.now c.if-report-lt-REPORT_NUMBERS.false number_told refl _ _ c.tell.ensures)
