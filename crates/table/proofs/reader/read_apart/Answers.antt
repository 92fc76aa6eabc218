-- `read_apart`: a refusal is handed on, and a table that was read is copied.
use Rattle.std.specs.Prelude.{Err}
use Rattle.std.proofs.Common.{◌≡◌, ap, arith, rules}
use Rattle.table.specs.Tables.{names}
use Rattle.table.specs.declared.state.State.{State}
use Rattle.table.proofs.ReadCalls.{leaves_refused, apart_copied}
use Rattle.table.proofs.reader.read_apart.Goals as goal

pub invariant_of-table : goal.invariant_of-table
unfolding names
invariant_of-table c = record { few = omega (arith, ap (λ (s : State). s.sections) c.new-2.ensures) }

pub returns-in_err-read_lines : goal.returns-in_err-read_lines
returns-in_err-read_lines c = let a = c.args in
    let q : c.from_residual.result ≡ Err c.in_err-read_lines.field-0.0 = search rules in
    rw q (leaves_refused _ _ c.in_err-read_lines.ensures a.text.now a.sections.now a.entries.now)

pub returns : goal.returns
returns c = let a = c.args in
    apart_copied _ _ _ _ c.read_lines.new.self c.in_ok-read_lines.ensures c.counts-counts.result c.counts-counts.ensures
    a.text.now _ a.sections.now _ a.entries.now _ c.requires.1 c.requires.2 c.requires.3
    c.copy_into.ensures.held
    c.copy_into-2.ensures.held
    c.copy_into-3.ensures.held
