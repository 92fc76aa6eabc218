-- `havtsulen_find`: a short report, or what the function below it has answered.
use native.Mathlib.Omega.{arith}
use Rattle.std.proofs.Common.{rules}
use Rattle.lookup.specs.Decoding.{lent}
use Rattle.havtsulen.proofs.QuestionCalls.{find_short, find_reported}
use Rattle.havtsulen.proofs.questions.havtsulen_find.Goals as goal

pub returns-then-report-lt-REPORT_NUMBERS : goal.returns-then-report-lt-REPORT_NUMBERS
returns-then-report-lt-REPORT_NUMBERS c =
    let a = c.args in find_short (lent a.text.now a.sections.now a.section_count a.entries.now a.entry_count) a.which a.section.now a.key.now a.report.now (omega (arith, c.if-report-lt-REPORT_NUMBERS.true))

pub returns : goal.returns
returns c = let a = c.args in find_reported (lent a.text.now a.sections.now a.section_count a.entries.now a.entry_count) a.which a.section.now a.key.now a.report.now c.if-report-lt-REPORT_NUMBERS.false _ c.which_of.ensures _ _ _ c.tell.ensures (search (rules, c.find.ensures))
