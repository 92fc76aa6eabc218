-- `line_at`: the LFs before the offset, and one.
use mathlib.Core.Path.{◌∙◌}
use native.Mathlib.Omega.{arith}
use Rattle.std.proofs.Common.{rules, tests, take}
use Rattle.std.proofs.lemmas.Iterator.{YieldsList-from_slice}
use Rattle.std.proofs.lemmas.Iterator.Consumers.{YieldsList-from_filter, count_from_yields_List}
use Rattle.lines.specs.Bytes.{is_lf}
use Rattle.lines.specs.Files.{line_at}
use Rattle.lines.proofs.Chains.{feeds_counted}
use Rattle.lines.proofs.file.line_at.Goals as goal

pub returns : goal.returns
unfolding line_at
returns c =
    let t = take c.args.offset c.args.file.now in
    omega (
      arith,
      count_from_yields_List c.filter.result c.count.result c.count.ensures.ran
          (YieldsList-from_filter _ is_lf (YieldsList-from_slice t cc) c.filter.ensures.closure (λ x r q k. search (rules, tests)))
          ∙ feeds_counted t,
    )
