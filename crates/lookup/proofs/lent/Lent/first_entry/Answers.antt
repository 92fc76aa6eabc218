-- `first_entry`: what `find` over the indexes says, from the front.
use Rattle.std.proofs.Common.{rules, ◌≡◌, true, false}
use Rattle.std.proofs.lemmas.Iterator.{first_from_Range}
use borrow.Author.Tests.{tests}
use Rattle.lookup.specs.Decoding.{lent_of}
use Rattle.lookup.specs.Steps.{matches}
use Rattle.lookup.proofs.Searching.{first_of_range}
use Rattle.lookup.proofs.lent.Lent.first_entry.Goals as goal

pub returns : goal.returns
returns c =
    let a = c.args in
    first_of_range _ _ _
    (first_from_Range _ _ _ _ (λ i. matches (lent_of a.self) a.section.now a.key.now i ≡ true) (λ i. matches (lent_of a.self) a.section.now a.key.now i ≡ false)
    c.find.ensures.ran (λ x q k. search (rules, tests)) (λ x q k. search (rules, tests)))
