-- `header_name`: a ] at the end, and then the name before it.
use Rattle.std.specs.Prelude.{None}
use Rattle.std.proofs.Common.{◌≡◌, ◌∙◌, sym, arith, rules}
use Rattle.table.proofs.Scans.{no_name, no_bracket, name_decides}
use Rattle.table.proofs.kinds.header_name.Goals as goal
use Rattle.table.proofs.kinds.header_name.Goals.{else-last-eq93-via-then-last-eq93+else-is_name, else-last-eq93-via-else-last-eq93}

pub returns-in_err-last : goal.returns-in_err-last
returns-in_err-last c =
    let q : c.from_residual.result ≡ None = search rules in
    rw q (no_name c.args.rest.now c.in_err-last.ensures.cases)

pub returns-then-is_name : goal.returns-then-is_name
returns-then-is_name c = let w = c.in_ok-last in
    (name_decides c.args.rest.now w.name.now (rw c.if-last-eq93.true at w.ensures.cases.0) ∙ rw (sym c.is_name.ensures ∙ c.if-is_name.true), omega (arith, w.ensures.cases.1))

pub returns-else-last-eq93 : goal.returns-else-last-eq93
returns-else-last-eq93 c = let r = c.in_ok-last in
    elim c.else-last-eq93.branch [
      | else-last-eq93-via-then-last-eq93+else-is_name w ↦
          name_decides c.args.rest.now r.name.now (rw w.if-last-eq93.true at r.ensures.cases.0) ∙ rw (sym w.is_name.ensures ∙ w.if-is_name.false)
      | else-last-eq93-via-else-last-eq93 w ↦ no_bracket c.args.rest.now r.name.now r.last.now r.ensures.cases.0 w.if-last-eq93.false
    ]
