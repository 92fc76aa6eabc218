-- `find_then_value`: look-up, then the value, copied.
use mathlib.Core.Path.{◌≡◌}
use Rattle.std.proofs.Common.{rules}
use Rattle.std.proofs.lemmas.Result.{err_from_is_err_and}
use Rattle.lookup.specs.Decoding.{lent_of}
use Rattle.claims.proofs.FileEntries.{asks_found, asks_missing}
use Rattle.claims.proofs.look_up.find_then_value.Goals as goal

pub returns : goal.returns
returns c = let a = c.args in
    asks_found (lent_of a.lent) a.which a.section.now a.key.now a.out.now c.find.result c.in_ok-index.index c.in_ok-index.was c.find.ensures a.lent.text.ref_ptr c.value-value.result.ref_ptr c.value-value.result.now c.value-value.ensures c.requires c.copy_into.new.buffer c.copy_into.ensures.held

pub returns-in_err-index : goal.returns-in_err-index
returns-in_err-index c =
    let a = c.args in
    let p = err_from_is_err_and c.from_residual.result c.from_residual.ensures.1 in
    rw (p.1, p.2) (asks_missing (lent_of a.lent) a.which a.section.now a.key.now a.out.now c.find.result _ c.in_err-index.was c.find.ensures)
