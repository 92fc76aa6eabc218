-- `put_entry` puts the key, =, the value and LF.
use native.Mathlib.Omega.{arith}
use lib.ListN.{length-set}
use Rattle.normal_text.proofs.LinePuts.{entry_length, key_kept, line_kept, line_inside, entry-put}
use Rattle.normal_text.proofs.writer.put_entry.Goals as goal

pub bounds-out-sign : goal.bounds-out-sign
bounds-out-sign c = let l = entry_length c.args.key.now c.args.value.now in
    let k = key_kept c.args.out.now c.args.at c.args.key.now c.args.value.now _ c.requires c.copy_into.ensures.held in
    omega (arith, k, l, c.requires)

pub put_value-end-requires : goal.put_value-end-requires
put_value-end-requires c = let l = entry_length c.args.key.now c.args.value.now in
    let k = key_kept c.args.out.now c.args.at c.args.key.now c.args.value.now _ c.requires c.copy_into.ensures.held in
    simp length-set (omega (arith, k, l, c.requires))

pub bounds-out-end : goal.bounds-out-end
bounds-out-end c = omega (arith, line_inside c.args.out.now c.args.at c.args.key.now c.args.value.now _ c.requires c.copy_into.ensures.held _ _ c.put_value-end.ensures, line_kept c.args.out.now c.args.at c.args.key.now c.args.value.now _ c.requires c.copy_into.ensures.held _ _ c.put_value-end.ensures)

pub returns : goal.returns
returns c = entry-put c.args.out.now c.args.at c.args.key.now c.args.value.now _ c.requires c.copy_into.ensures.held _ _ c.put_value-end.ensures
