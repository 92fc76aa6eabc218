-- `add_entry`: before any header, one too many, or a new one.
use Rattle.std.proofs.Common.{arith}
use Rattle.table.proofs.Taking.{entry_outside, entry_many, entry_new}
use Rattle.table.proofs.builder.Builder.add_entry.Goals as goal

pub returns-in_default : goal.returns-in_default
returns-in_default c = entry_outside _ _ _ c.args.self.now c.args.self.now c.in_default.is

pub returns-then-self-ge512 : goal.returns-then-self-ge512
returns-then-self-ge512 c = entry_many _ _ _ c.args.self.now c.args.self.now c.in-Some.section c.in-Some.is c.if-self-ge512.true

pub returns : goal.returns
returns c = entry_new _ _ _ c.args.self.now c.put_entry.new.self c.in-Some.section c.in-Some.is c.if-self-ge512.false (omega arith) c.put_entry.ensures
