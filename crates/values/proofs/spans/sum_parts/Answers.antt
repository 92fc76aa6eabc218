-- `sum_parts` reads one part after the other. The invariant: the parts read so far stand in front of those of
-- what is left (`Walked`).
use mathlib.Core.Path.{refl}
use native.Mathlib.Omega.{arith}
use Rattle.std.proofs.lemmas.Bool.Decides.{nat_tests}
use Rattle.values.proofs.Sums.{walk_start, walk_more, walk_wrong, walk_done}
use Rattle.values.proofs.spans.sum_parts.Goals as goal

pub loop-rest-init : goal.loop-rest-init
loop-rest-init c = walk_start _ c.requires

pub returns-in_default : goal.returns-in_default
returns-in_default c = (refl, (walk_wrong _ _ _ c.loop-rest.invariant (grind (arith, nat_tests)) c.in_default.ensures.1))

pub loop-rest-preserved : goal.loop-rest-preserved
loop-rest-preserved c = walk_more _ _ _ _ _ _ c.loop-rest.invariant c.in-Ok.ensures c.plus-total.ensures

pub returns : goal.returns
returns c = walk_done _ _ _ c.loop-rest.invariant (grind (arith, nat_tests))
