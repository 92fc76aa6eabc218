-- `last_entry`: what `find` over the indexes says, from the back.
use Rattle.std.proofs.Common.{rules}
use borrow.Author.Tests.{tests}
use Rattle.lookup.specs.Decoding.{lent_of}
use Rattle.lookup.specs.Steps.{matches}
use Rattle.lookup.proofs.Ranges.{last_from_back}
use Rattle.lookup.proofs.lent.Lent.last_entry.Goals as goal

pub returns : goal.returns
returns c =
    let a = c.args in
    last_from_back _ (matches (lent_of a.self) a.section.now a.key.now) (λ x q k. search (rules, tests)) (λ x q k. search (rules, tests)) _ _ _ _
    c.rev.ensures.source c.find.ensures.ran
