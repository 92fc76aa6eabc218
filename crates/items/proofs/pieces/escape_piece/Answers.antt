-- `escape_piece`: the escape taken apart, its bytes or its refusal.
use mathlib.Core.Path.{sym, ap, ◌∙◌}
use native.Mathlib.Omega.{arith}
use Rattle.items.specs.Steps.{escape_means}
use Rattle.items.proofs.PieceSteps.{escape-inside, escape-bytes, escape_wrong}
use Rattle.items.proofs.pieces.escape_piece.Goals as goal

pub returns-in_default : goal.returns-in_default
returns-in_default c =
    λ m. escape_wrong _ _ c.requires.0 c.requires.1 _ _ (sym c.read_escape-escape.ensures ∙ ap escape_means c.unwrap_err.ensures) m

pub overflow_add-result-2 : goal.overflow_add-result-2
overflow_add-result-2 c =
    record { fits = omega (arith, escape-inside c.args.text.now c.args.at c.requires.0 c.requires.1 c.in-Ok.field-0.bytes c.in-Ok.field-0.taken (sym c.in-Ok.ensures)) }

pub returns : goal.returns
returns c = escape-bytes _ _ c.requires.0 c.requires.1 _ _ (sym c.in-Ok.ensures)
