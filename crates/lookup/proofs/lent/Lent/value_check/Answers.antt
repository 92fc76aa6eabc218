-- `value_check`: the table, the index, the record.
use mathlib.Core.Path.{sym, ap, ◌∙◌}
use native.Mathlib.Omega.{arith}
use Rattle.lines.specs.Answers.{accepted}
use Rattle.lookup.specs.Decoding.{lent_of}
use Rattle.lookup.proofs.Calls.{value_faulty, value_missing, value_there, record_of}
use Rattle.lookup.proofs.lent.Lent.value_check.Goals as goal

pub returns-then-not-holds_table : goal.returns-then-not-holds_table
returns-then-not-holds_table c = value_faulty (lent_of c.args.self) c.args.index (sym c.holds_table.ensures ∙ c.if-not-holds_table.true)

pub returns-then-self-index : goal.returns-then-self-index
returns-then-self-index c = value_missing (lent_of c.args.self) c.args.index (sym c.holds_table.ensures ∙ c.if-not-holds_table.false) (omega arith)

pub value_part-requires : goal.value_part-requires
value_part-requires c = record_of (lent_of c.args.self) c.args.index (sym c.holds_table.ensures ∙ c.if-not-holds_table.false) (omega arith)

pub returns : goal.returns
returns c = ap accepted c.value_part.ensures ∙ value_there (lent_of c.args.self) c.args.index (sym c.holds_table.ensures ∙ c.if-not-holds_table.false) (omega arith)
