-- `read_then_find`: the buffer, the read call, then the questions.
use Rattle.std.proofs.Common.{rules}
use Rattle.std.proofs.lemmas.Result.{err_from_is_err_and}
use Rattle.claims.proofs.FileEntries.{gets_short, gets_refused, gets_asked}
use Rattle.claims.proofs.look_up.read_then_find.Goals as goal

pub returns-then-out-lt65535 : goal.returns-then-out-lt65535
returns-then-out-lt65535 c = gets_short _ _ _ _ _ c.if-out-lt65535.true

pub returns : goal.returns
returns c = let a = c.args in
    gets_asked a.file.now a.which a.section.now a.key.now a.out.now c.if-out-lt65535.false _ _ _ c.read.result _ _ _ c.read.ensures _ c.in_ok-counts.was c.find_then_value.result _ c.find_then_value.ensures

pub returns-in_err-counts : goal.returns-in_err-counts
returns-in_err-counts c =
    let a = c.args in
    let p = err_from_is_err_and c.from_residual.result c.from_residual.ensures.1 in
    rw (p.1, p.2)
    (gets_refused a.file.now a.which a.section.now a.key.now a.out.now c.if-out-lt65535.false _ _ _ c.read.result _ _ _ c.read.ensures (search rules) (search rules) (search rules) _ c.in_err-counts.was)
