-- `closed_piece`: the end, a blank, or a refusal.
use mathlib.Core.Path.{refl, sym, ◌∙◌}
use native.Mathlib.Omega.{arith}
use Rattle.items.proofs.PieceSteps.{closed_over, closed_blank, closed_stray}
use Rattle.items.proofs.pieces.closed_piece.Goals as goal

pub returns-then-text-at : goal.returns-then-text-at
returns-then-text-at c = (closed_over _ _ c.if-text-at.true, refl)

pub returns-then-is_blank : goal.returns-then-is_blank
returns-then-is_blank c = (closed_blank _ _ (omega arith) (sym c.is_blank.ensures ∙ c.if-is_blank.true), refl)

pub returns : goal.returns
returns c = closed_stray _ _ (omega arith) (sym c.is_blank.ensures ∙ c.if-is_blank.false)
