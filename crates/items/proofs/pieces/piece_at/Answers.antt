-- `piece_at`: by the kind of item, and whether the text has ended.
use native.Mathlib.Omega.{arith}
use Rattle.items.proofs.PieceSteps.{bare_over, quoted_over}
use Rattle.items.proofs.pieces.piece_at.Goals as goal

pub returns-in-Bare-2 : goal.returns-in-Bare-2
returns-in-Bare-2 c = rw c.in-Bare-2.is (bare_over _ _ (omega arith) (omega arith))

pub returns-in-Quoted-2 : goal.returns-in-Quoted-2
returns-in-Quoted-2 c = rw c.in-Quoted-2.is (quoted_over _ _ _ _ (omega arith))
