-- `line_length`: the first LF, or the end.
use mathlib.Core.Path.{◌≡◌, sym, ◌∙◌}
use mathlib.Core.Bool.{true, false}
use Rattle.std.proofs.Common.{rules, tests}
use Rattle.std.proofs.lemmas.Iterator.{YieldsList-from_slice, IsFirst-from_position}
use Rattle.lines.specs.Bytes.{is_lf}
use Rattle.lines.proofs.Chains.{line_length_is}
use Rattle.lines.proofs.physical.line_length.Goals as goal

pub returns : goal.returns
returns c =
    let t = c.args.text.now in
    c.unwrap_or.ensures
    ∙ sym (line_length_is t c.position.result
    (IsFirst-from_position _ _ c.position.result (λ b. is_lf b ≡ true) (λ b. is_lf b ≡ false) c.position.ensures.ran
    (YieldsList-from_slice t cc) (λ x q k. search (rules, tests)) (λ x q k. search (rules, tests))))
