-- `trim_start`: the first byte that is no blank is where the text starts.
use mathlib.Core.Path.{◌≡◌, ◌∙◌}
use mathlib.Core.Bool.{true, false}
use Rattle.std.proofs.Common.{rules, tests}
use Rattle.std.proofs.lemmas.Iterator.{YieldsList-from_slice, IsFirst-from_position}
use Rattle.lines.specs.Bytes.{blank}
use Rattle.lines.proofs.Slices.{part_from}
use Rattle.lines.proofs.Trimming.{trim_start_from}
use Rattle.lines.proofs.bytes.trim_start.Goals as goal

pub returns : goal.returns
returns c =
    let t = c.args.text.now in
    part_from c.unwrap_or-start.result t
    ∙ trim_start_from t c.position.result c.unwrap_or-start.result
    (IsFirst-from_position _ _ c.position.result (λ b. blank b ≡ false) (λ b. blank b ≡ true) c.position.ensures.ran
    (YieldsList-from_slice t cc) (λ x q k. search (rules, tests)) (λ x q k. search (rules, tests)))
    c.unwrap_or-start.ensures
