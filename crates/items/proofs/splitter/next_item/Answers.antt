-- `next_item`: by what stands behind the blanks.
use mathlib.Core.Path.{refl, sym, ◌∙◌}
use native.Mathlib.Omega.{arith}
use Rattle.items.proofs.StepCases.{step_end, step_many, step_quoted, step_bare, same_step}
use Rattle.items.proofs.splitter.next_item.Goals as goal

pub returns-then-text-at : goal.returns-then-text-at
returns-then-text-at c =
    (step_end c.args.text.now c.args.more c.args.start _ c.requires.1 c.leading_blanks.ensures (omega arith), refl)

pub returns-then-more-eq0 : goal.returns-then-more-eq0
returns-then-more-eq0 c =
    step_many c.args.text.now c.args.more c.args.start _ c.requires.1 c.leading_blanks.ensures (omega arith) (omega arith)

pub returns-then-is_quote : goal.returns-then-is_quote
returns-then-is_quote c =
    same_step c.args.text.now _ _ c.args.used _ c.read_item.new.buffer c.read_item.result
    (step_quoted c.args.text.now c.args.more c.args.start _ c.requires.1 c.leading_blanks.ensures (omega arith) (omega arith) (sym c.is_quote.ensures ∙ c.if-is_quote.true))
    c.read_item.ensures

pub returns : goal.returns
returns c =
    same_step c.args.text.now _ _ c.args.used _ c.read_item-2.new.buffer c.read_item-2.result
    (step_bare c.args.text.now c.args.more c.args.start _ c.requires.1 c.leading_blanks.ensures (omega arith) (omega arith) (sym c.is_quote.ensures ∙ c.if-is_quote.false))
    c.read_item-2.ensures
