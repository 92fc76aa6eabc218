-- `is_kept`: what the type calls kept is what `all` tests.
use Rattle.std.proofs.Common.{sym, ◌∙◌, rules, tests, drop}
use Rattle.std.proofs.lemmas.Iterator.{YieldsList-from_slice}
use Rattle.std.proofs.lemmas.Iterator.Search.{all_from_yields_List}
use Rattle.listing.proofs.show.is_kept.Goals as goal

pub returns : goal.returns
returns g c =
    let t = g.T.Filler in
    let rest = drop c.args.from c.args.buffer.now in
    all_from_yields_List (λ x. g.T.PartialEq.eq x t.FILLER) _ _ _ c.all.ensures.ran (YieldsList-from_slice rest cc) (λ x b q k. search (rules, tests)) ∙ sym (g.met.T.Filler.kept_is c.args.buffer.now c.args.from)
