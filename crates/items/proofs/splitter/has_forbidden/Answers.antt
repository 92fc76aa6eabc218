-- `has_forbidden`: the fold is `any`.
use mathlib.Core.Path.{◌∙◌}
use mathlib.Core.Bool.{false, ◌||◌}
use Rattle.std.proofs.Common.{rules, tests}
use Rattle.std.proofs.lemmas.Iterator.{YieldsList-from_slice}
use Rattle.std.proofs.lemmas.Iterator.Consumers.{fold_from_yields_List}
use Rattle.lines.proofs.Chains.{any_folded}
use Rattle.items.specs.Split.{forbidden}
use Rattle.items.proofs.splitter.has_forbidden.Goals as goal

pub returns : goal.returns
returns c =
    fold_from_yields_List _ (λ found b. found || forbidden b) false c.fold.result c.fold.ensures.ran
    (YieldsList-from_slice c.args.text.now cc) (λ a x b q k. search (rules, tests))
    ∙ any_folded forbidden c.args.text.now
