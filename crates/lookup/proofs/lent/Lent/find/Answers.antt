-- `find`: the table, then the index.
use mathlib.Core.Path.{sym, ap, ◌∙◌}
use Rattle.lookup.specs.Decoding.{lent_of}
use Rattle.lookup.specs.Answers.{find_means}
use Rattle.lookup.proofs.Calls.{find_faulty, find_found}
use Rattle.lookup.proofs.lent.Lent.find.Goals as goal

pub returns-then-not-holds_table : goal.returns-then-not-holds_table
returns-then-not-holds_table c = find_faulty (lent_of c.args.self) c.args.which c.args.section.now c.args.key.now (sym c.holds_table.ensures ∙ c.if-not-holds_table.true)

pub returns : goal.returns
returns c = ap find_means c.ok_or.ensures.value
    ∙ find_found (lent_of c.args.self) c.args.which c.args.section.now c.args.key.now (sym c.holds_table.ensures ∙ c.if-not-holds_table.false) _ c.find_entry.ensures
