-- `scale_of`: at each `_` the name differs from all seven, by its length or by a byte.
use Rattle.std.proofs.Common.{rules, arith}
use Rattle.values.proofs.Words.{scale_none}
use Rattle.values.proofs.spans.scale_of.Goals as goal

pub returns-in_default-5 : goal.returns-in_default-5
returns-in_default-5 c = search (rules, arith, scale_none)

pub returns-in_default-7 : goal.returns-in_default-7
returns-in_default-7 c = search (rules, arith, scale_none)

pub returns-in_default-8 : goal.returns-in_default-8
returns-in_default-8 c = search (rules, arith, scale_none)

pub returns-in_default-9 : goal.returns-in_default-9
returns-in_default-9 c = search (rules, arith, scale_none)
