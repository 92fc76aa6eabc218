-- `is_name`: each byte may stand there, and there is one.
use Rattle.std.proofs.Common.{◌≡◌, false, not, ◌∙◌, sym, rules, tests}
use Rattle.std.proofs.lemmas.Iterator.{YieldsList-from_slice}
use Rattle.std.proofs.lemmas.Iterator.Search.{all_from_yields_List}
use Rattle.lines.specs.Bytes.{header_byte}
use Rattle.table.proofs.Scans.{one_or_more-none, one_or_more-some}
use Rattle.table.proofs.kinds.is_name.Goals as goal

pub returns-then-not-is_empty : goal.returns-then-not-is_empty
returns-then-not-is_empty c = let l = c.args.part.now in
    all_from_yields_List header_byte _ _ _ c.all.ensures.ran (YieldsList-from_slice l cc) (λ x b q k. search (rules, tests))
    ∙ one_or_more-some header_byte l (search (rules, tests))

pub returns-else-not-is_empty : goal.returns-else-not-is_empty
returns-else-not-is_empty c = let e : not c.is_empty.result ≡ false = search (rules, tests) in e ∙ sym (one_or_more-none header_byte c.args.part.now (search (rules, tests)))
