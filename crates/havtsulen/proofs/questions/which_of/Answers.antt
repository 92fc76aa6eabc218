-- `which_of`: 0, or any other number.
use native.Mathlib.Omega.{arith}
use Rattle.havtsulen.proofs.QuestionCalls.{asks_last}
use Rattle.havtsulen.proofs.questions.which_of.Goals as goal

pub returns : goal.returns
returns c = asks_last c.args.which (omega (arith, c.if-which-eq0.false))
