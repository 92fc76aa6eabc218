-- `entries_good`: what `all` over the indexes says.
use Rattle.std.proofs.Common.{rules}
use borrow.Author.Tests.{tests}
use Rattle.lookup.specs.Decoding.{lent_of}
use Rattle.lookup.specs.Steps.{good_record}
use Rattle.lookup.proofs.Ranges.{each_from_all}
use Rattle.lookup.proofs.lent.Lent.entries_good.Goals as goal

pub returns-then-self-clause-each : goal.returns-then-self-clause-each
returns-then-self-clause-each c h =
    each_from_all _ (good_record (lent_of c.args.self)) _ (λ x q k. search (rules, tests)) h _ _ c.all.ensures.ran
