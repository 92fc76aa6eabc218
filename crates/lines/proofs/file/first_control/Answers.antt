-- `first_control`: what `position` finds behind the clean parts.
use mathlib.Core.Path.{◌≡◌, ap, ◌∙◌}
use Prim.Native.Nat.{◌+◌}
use native.Mathlib.Omega.{arith}
use mathlib.Core.Bool.{true, false}
use lib.ListN.{length, drop, length-drop}
use Rattle.std.specs.Option.{unwrap_or}
use Rattle.std.proofs.Common.{rules, tests}
use Rattle.std.proofs.lemmas.Iterator.{YieldsList-from_slice, IsFirst-from_position}
use Rattle.lines.specs.Bytes.{control}
use Rattle.lines.specs.Files.{first_control}
use Rattle.lines.proofs.Chains.{first_control_is}
use Rattle.lines.proofs.Slices.{part_from}
use Rattle.lines.proofs.FileLaws.{first_from}
use Rattle.lines.proofs.file.first_control.Goals as goal
use Rattle.lines.proofs.file.first_control.Goals.{After-position}

found : (c : After-position)
    → first_control c.args.file.now ≡ c.clean_parts-at.result + unwrap_or c.position.result (length (drop c.clean_parts-at.result c.args.file.now))
found c =
    let f = c.args.file.now in
    let p = c.clean_parts-at in
    let b = drop p.result f in
    first_from f p.result p.ensures.inside p.ensures.clean
    ∙ ap (λ n. p.result + n) (first_control_is b c.position.result
    (IsFirst-from_position _ _ _ (λ b. control b ≡ true) (λ b. control b ≡ false) c.position.ensures.ran
    (YieldsList-from_slice b (rw part_from at c.iter.ensures.rest)) (λ x q k. search (rules, tests)) (λ x q k. search (rules, tests))))

pub returns-in-Some : goal.returns-in-Some
returns-in-Some c =
    let e = rw c.in-Some.is at (found (goal.at.returns-in-Some c).After-position) in
    omega (arith, e)

pub returns-in-None : goal.returns-in-None
returns-in-None c =
    let e = rw c.in-None.is at (found (goal.at.returns-in-None c).After-position) in
    omega (arith, e, length-drop c.clean_parts-at.result c.args.file.now, c.clean_parts-at.ensures.inside)
