-- `first_part` cuts off the digits and then the letters, with the blanks behind each (`Parts`).
use mathlib.Core.Path.{◌≡◌, refl, sym, ap, ◌∙◌}
use lib.ListN.{length}
use native.Mathlib.Omega.{arith}
use Rattle.std.proofs.Common.{rules, Some, None}
use Rattle.std.proofs.lemmas.Bool.Decides.{nat_tests}
use Rattle.std.proofs.lemmas.Result.{err_from_is_err_and}
use Rattle.lines.specs.Bytes.{digit, letter}
use Rattle.lines.specs.Trim.{trim_start}
use Rattle.values.proofs.Longest.{Run, run_found}
use Rattle.values.proofs.Parts.{no_number, part_wrong, part_right}
use Rattle.values.proofs.Units.{scale_positive}
use Rattle.values.specs.Steps.{scale_means}
use Rattle.values.proofs.spans.first_part.Goals as goal
use Rattle.values.proofs.spans.first_part.Goals.{After-split_start, After-split_start-2}

number_run : (c : After-split_start) → Run digit c.args.text.now c.split_start.result.0.now c.split_start.result.1.now
number_run c = run_found digit _ _ _ _ c.split_start.ensures (λ b r h. search rules)

name_run : (c : After-split_start-2) → Run letter (trim_start c.split_start.result.1.now) c.split_start-2.result.0.now c.split_start-2.result.1.now
name_run c = rw c.trim_start.ensures at (run_found letter _ _ _ _ c.split_start-2.ensures (λ b r h. search rules))

pub returns-then-is_empty : goal.returns-then-is_empty
returns-then-is_empty c =
    let number = number_run (goal.at.returns-then-is_empty c).After-split_start in
    (refl, no_number c.args.text.now c.requires (ap length (sym number.front_is) ∙ grind (arith, nat_tests)))

pub number-requires : goal.number-requires
number-requires c = (number_run (goal.at.number-requires c).After-split_start).pass

pub returns-in_err-scale : goal.returns-in_err-scale
returns-in_err-scale c =
    let p = err_from_is_err_and c.from_residual.result c.from_residual.ensures.1 in
    let none : c.scale_of.result ≡ None = grind arith in
    let number = number_run (goal.at.returns-in_err-scale c).After-split_start in
    let name = name_run (goal.at.returns-in_err-scale c).After-split_start-2 in
    rw (p.1, p.2)
    (grind arith, part_wrong _ _ _ _ _ number (grind (arith, nat_tests)) name (sym c.scale_of.ensures ∙ ap scale_means none))

pub times-requires : goal.times-requires
times-requires c =
    let some : c.scale_of.result ≡ Some c.in_ok-scale.scale = grind arith in
    scale_positive _ _ (sym c.scale_of.ensures ∙ ap scale_means some)

pub returns : goal.returns
returns c =
    let some : c.scale_of.result ≡ Some c.in_ok-scale.scale = grind arith in
    let number = number_run (goal.at.returns c).After-split_start in
    let name = name_run (goal.at.returns c).After-split_start-2 in
    rw c.trim_start-2.ensures
    (part_right _ _ _ _ _ number (grind (arith, nat_tests)) name _ _ (sym c.scale_of.ensures ∙ ap scale_means some) (c.times.ensures _ c.number.ensures))
