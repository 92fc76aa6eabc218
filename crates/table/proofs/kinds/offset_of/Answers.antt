-- `offset_of`: the first byte that is the byte.
use Rattle.std.proofs.Common.{◌≡◌, true, false, eqb, rules, tests}
use Rattle.std.proofs.lemmas.Iterator.{YieldsList-from_slice, IsFirst-from_position}
use Rattle.table.proofs.Scans.{offset_found}
use Rattle.table.proofs.kinds.offset_of.Goals as goal

pub returns : goal.returns
returns c = let l = c.args.line.now in
    offset_found c.args.byte l c.position.result
    (IsFirst-from_position _ _ c.position.result (λ b. eqb b c.args.byte ≡ true) (λ b. eqb b c.args.byte ≡ false) c.position.ensures.ran
    (YieldsList-from_slice l cc) (λ x q k. search (rules, tests)) (λ x q k. search (rules, tests)))
