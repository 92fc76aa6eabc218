-- `add_line`: an empty line, a header, or an entry, by the first byte of the trimmed line.
use Rattle.std.specs.Prelude.{Ok}
use Rattle.std.proofs.Common.{◌≡◌, get_or, sym, ap, ◌∙◌, arith, rules, tests}
use Rattle.table.specs.LineKinds.{kind}
use Rattle.table.proofs.TakingLines.{as_kind, line_empty, starts_header, starts_entry, trimmed-fits, rest_fits}
use Rattle.table.proofs.builder.Builder.add_line.Goals as goal

pub returns-in-empty : goal.returns-in-empty
returns-in-empty c = let a = c.args in
    as_kind _ _ a.number a.self.now (Ok tt) a.self.now (ap kind c.trim.ensures) (line_empty c.trim.result.now a.number a.self.now (omega arith))

pub add_header_line-requires : goal.add_header_line-requires
add_header_line-requires c = rest_fits c.trim.result.now c.args.line.now _ _ c.trim.ensures c.requires

pub returns-in-91 : goal.returns-in-91
returns-in-91 c = let a = c.args in
    let h : get_or c.trim.result.now 0 0 ≡ 0x5B = search (rules, tests) in
    as_kind _ _ a.number a.self.now c.add_header_line.result c.add_header_line.new.self
    (sym (starts_header c.trim.result.now (omega arith) h) ∙ ap kind c.trim.ensures)
    c.add_header_line.ensures

pub add_entry_line-requires : goal.add_entry_line-requires
add_entry_line-requires c = trimmed-fits c.trim.result.now c.args.line.now _ _ c.trim.ensures c.requires

pub returns-in_default : goal.returns-in_default
returns-in_default c = let a = c.args in
    let h : get_or c.trim.result.now 0 0 ≡ 0x5B → ⊥ = search (rules, tests) in
    as_kind _ _ a.number a.self.now c.add_entry_line.result c.add_entry_line.new.self
    (sym (starts_entry c.trim.result.now (omega arith) h) ∙ ap kind c.trim.ensures)
    c.add_entry_line.ensures
