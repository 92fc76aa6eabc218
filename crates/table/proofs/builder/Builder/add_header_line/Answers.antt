-- `add_header_line`: a bad header, or its name.
use Rattle.std.proofs.Common.{sym, refl}
use Rattle.table.specs.declared.error.Error.TheVariants.{BadHeader}
use Rattle.table.proofs.TakingLines.{as_kind, fault_refused}
use Rattle.table.proofs.builder.Builder.add_header_line.Goals as goal

pub returns-in_default : goal.returns-in_default
returns-in_default c = fault_refused _ 6 _ c.args.self.now c.args.self.now (BadHeader c.args.number) c.in_default.ensures refl refl

pub returns : goal.returns
returns c = as_kind _ _ _ c.args.self.now c.open_section.result c.open_section.new.self (sym c.in-Some.ensures.0) c.open_section.ensures
