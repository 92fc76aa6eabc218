-- `trim_end` drops blanks. The invariant: trimming the text is trimming what is left of it.
use mathlib.Core.Path.{sym, ap, ◌∙◌}
use Rattle.std.proofs.Common.{rules}
use Rattle.lines.specs.Trim.{trim_end}
use Rattle.lines.proofs.Trimming.{trim_end-blank, trim_end_last, trim_end_empty}
use Rattle.lines.proofs.bytes.trim_end.Goals as goal

pub returns-then-not-is_blank : goal.returns-then-not-is_blank
returns-then-not-is_blank c =
    let s = c.in-Some in
    let e = s.ensures.cases.0 in
    e ∙ sym (c.loop-last.invariant ∙ ap trim_end e ∙ trim_end_last s.front.now s.last.now (search rules))

pub loop-last-preserved : goal.loop-last-preserved
loop-last-preserved c =
    let s = c.in-Some in
    c.loop-last.invariant ∙ ap trim_end s.ensures.cases.0 ∙ trim_end-blank s.front.now s.last.now (search rules)

pub returns : goal.returns
returns c = sym (c.loop-last.invariant ∙ trim_end_empty c.loop-last.rest.now c.in_default.ensures.cases)
