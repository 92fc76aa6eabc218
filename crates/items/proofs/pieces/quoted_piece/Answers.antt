-- `quoted_piece`: by the byte that stands there.
use borrow.Author.Tests.{ne_eqb}
use native.Mathlib.Omega.{arith}
use Rattle.items.specs.declared.pieces.Mode.TheVariants.{Quoted}
use Rattle.items.proofs.PieceSteps.{quoted_closed, quoted_byte}
use Rattle.items.proofs.pieces.quoted_piece.Goals as goal

pub returns-then-b-eq92 : goal.returns-then-b-eq92
returns-then-b-eq92 c = c.escape_piece.ensures (Quoted _ _)

pub returns-then-b-kind : goal.returns-then-b-kind
returns-then-b-kind c = quoted_closed c.args.text.now c.args.at c.args.kind c.args.opening c.requires (ne_eqb _ _ c.if-b-eq92.false) (omega arith) c.closed_piece.result c.closed_piece.ensures

pub returns : goal.returns
returns c = quoted_byte _ _ c.requires (ne_eqb _ _ c.if-b-eq92.false) _ _ c.if-b-kind.false
