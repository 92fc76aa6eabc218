-- `put_value` copies the value, and puts a space behind an odd run.
use mathlib.Core.Path.{sym, ◌∙◌}
use native.Mathlib.Omega.{arith}
use Rattle.normal_text.proofs.LinePuts.{value_space, value-spaced, value-plain}
use Rattle.normal_text.proofs.writer.put_value.Goals as goal

pub bounds-out-end : goal.bounds-out-end
bounds-out-end c = omega (arith, value_space c.args.out.now c.args.at c.args.value.now _ c.requires c.copy_into.ensures.held (sym c.is_continued.ensures ∙ c.if-is_continued.true))

pub returns-then-is_continued : goal.returns-then-is_continued
returns-then-is_continued c = value-spaced c.args.out.now c.args.at c.args.value.now _ c.requires c.copy_into.ensures.held (sym c.is_continued.ensures ∙ c.if-is_continued.true)

pub returns : goal.returns
returns c = value-plain c.args.out.now c.args.at c.args.value.now _ c.requires c.copy_into.ensures.held (sym c.is_continued.ensures ∙ c.if-is_continued.false)
