-- `boolean`: at each `_` the text differs from all eight words, by its length or by a byte.
use Rattle.std.proofs.Common.{rules, arith}
use Rattle.values.proofs.Words.{neither}
use Rattle.values.proofs.booleans.boolean.Goals as goal

pub returns-in_default-5 : goal.returns-in_default-5
returns-in_default-5 c = search (rules, arith, neither)

pub returns-in_default-9 : goal.returns-in_default-9
returns-in_default-9 c = search (rules, arith, neither)

pub returns-in_default-10 : goal.returns-in_default-10
returns-in_default-10 c = search (rules, arith, neither)

pub returns-in_default-14 : goal.returns-in_default-14
returns-in_default-14 c = search (rules, arith, neither)

pub returns-in_default-19 : goal.returns-in_default-19
returns-in_default-19 c = search (rules, arith, neither)

pub returns-in_default-20 : goal.returns-in_default-20
returns-in_default-20 c = search (rules, arith, neither)
