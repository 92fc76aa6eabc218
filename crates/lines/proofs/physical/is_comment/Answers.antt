-- `is_comment`: the first byte decides.
use mathlib.Core.Path.{◌≡◌, sym, ◌∙◌}
use mathlib.Core.Bool.{true, false, ◌||◌}
use lib.Dec.{eqb}
use Rattle.std.proofs.Common.{rules, tests}
use Rattle.lines.proofs.Physicals.{comment_of, comment_none}
use Rattle.lines.proofs.physical.is_comment.Goals as goal

pub returns-in_default : goal.returns-in_default
returns-in_default c = sym (comment_none c.args.text.now c.in_default.ensures.value)

pub returns-in-35 : goal.returns-in-35
returns-in-35 c =
    let b = c.in-Some.first.now in
    let e : true ≡ (eqb b 0x23 || eqb b 0x3B) = search (rules, tests) in
    e ∙ sym (comment_of c.args.text.now b c.in-Some.ensures.value)

pub returns-in_default-matches : goal.returns-in_default-matches
returns-in_default-matches c =
    let b = c.in-Some.first.now in
    let e : false ≡ (eqb b 0x23 || eqb b 0x3B) = search (rules, tests) in
    e ∙ sym (comment_of c.args.text.now b c.in-Some.ensures.value)
