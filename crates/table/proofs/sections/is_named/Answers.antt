-- `is_named`: the part is inside the text, or is no name.
use Rattle.std.proofs.Common.{◌≡◌, ◌+◌, ◌-◌, ◌<◌, ◌≤◌, length, sym, ◌∙◌, arith, rules, tests}
use Rattle.table.proofs.Search.{outside_text, inside_text}
use Rattle.table.proofs.sections.is_named.Goals as goal
use Rattle.table.proofs.sections.is_named.Goals.{then-start-text, else-start-text}

pub returns-then-length-text : goal.returns-then-length-text
returns-then-length-text c = let a = c.args in
    let e : a.start + a.length - a.start ≡ a.length = omega arith in
    let l : a.start + a.length ≤ length a.text.now = elim c.if-start-text.branch [ then-start-text w ↦ search (rules, tests) | else-start-text w ↦ search (rules, tests) ] in
    sym (inside_text a.name.now a.text.now a.start a.length l ∙ rw (← e) (sym c.same.ensures))

pub returns-else-length-text : goal.returns-else-length-text
returns-else-length-text c = let a = c.args in
    let l : length a.text.now < a.start + a.length = elim c.if-start-text.branch [ then-start-text w ↦ search (rules, tests) | else-start-text w ↦ search (rules, tests) ] in
    c.if-length-text.false ∙ sym (outside_text a.name.now a.text.now a.start a.length l)
