-- `open_section`: a name seen before, one too many, or a new one.
use Rattle.std.proofs.Common.{refl, arith}
use Rattle.table.proofs.Taking.{header_known, header_many, header_new}
use Rattle.table.proofs.builder.Builder.open_section.Goals as goal

pub returns-in-Some : goal.returns-in-Some
returns-in-Some c = header_known _ _ _ c.in-Some.index c.in-Some.ensures _ refl refl refl refl

pub returns-then-self-ge64 : goal.returns-then-self-ge64
returns-then-self-ge64 c = header_many _ _ _ c.in_default.ensures c.args.self.now (omega arith)

pub returns : goal.returns
returns c = let p = c.put_section.ensures in
    header_new _ _ c.args.self.now c.in_default.ensures c.put_section.new.self (omega arith)
    (record { state = p.state; text_put = p.text_put; numbers_put = p.numbers_put; entries_kept = p.entries_kept })
