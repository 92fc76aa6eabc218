-- `search_section`: what `find` over the indexes says.
use Rattle.std.proofs.Common.{rules, tests, ◌≡◌, true, false, arith}
use Rattle.std.proofs.lemmas.Iterator.{first_from_Range}
use Rattle.table.specs.Steps.{section_named}
use Rattle.table.proofs.Search.{found_among}
use Rattle.table.proofs.builder.Builder.search_section.Goals as goal

pub returns : goal.returns
returns c =
    let t = c.args.self.now in
    found_among c.args.name.now t.text t.state.sections t.sections (omega (arith, t.few)) c.find.result
    (first_from_Range _ _ _ _ (λ i. section_named c.args.name.now t.text t.sections i ≡ true) (λ i. section_named c.args.name.now t.text t.sections i ≡ false)
    c.find.ensures.ran (λ x q k. search (rules, tests)) (λ x q k. search (rules, tests)))
