-- `put_list`: the invariant is `Listed`.
use native.Mathlib.Omega.{arith}
use lib.ListN.{get_or}
use Rattle.item_writer.proofs.Lists.{NextItem, listed_start, next_item, listed_more, listed_done}
use Rattle.item_writer.proofs.writer.put_list.Goals as goal

pub loop-i-init : goal.loop-i-init
loop-i-init c = listed_start _ _ _ c.requires.0

pub slice_bounds-put_next-count : goal.slice_bounds-put_next-count
slice_bounds-put_next-count c =
    let next : let a = c.args in NextItem a.bytes.now c.loop-i.text c.loop-i.at c.loop-i.start (get_or a.ends.now c.loop-i.i 0) = next_item _ _ _ _ _ _ _ c.loop-i.invariant (omega arith) c.requires.1 in
    (next).above

pub slice_bounds-put_next-start : goal.slice_bounds-put_next-start
slice_bounds-put_next-start c =
    let next : let a = c.args in NextItem a.bytes.now c.loop-i.text c.loop-i.at c.loop-i.start (get_or a.ends.now c.loop-i.i 0) = next_item _ _ _ _ _ _ _ c.loop-i.invariant (omega arith) c.requires.1 in
    omega (arith, (next).above, (next).inside)

pub slice_bounds-put_next-end : goal.slice_bounds-put_next-end
slice_bounds-put_next-end c =
    let next : let a = c.args in NextItem a.bytes.now c.loop-i.text c.loop-i.at c.loop-i.start (get_or a.ends.now c.loop-i.i 0) = next_item _ _ _ _ _ _ _ c.loop-i.invariant (omega arith) c.requires.1 in
    (next).inside

pub put_next-at-requires : goal.put_next-at-requires
put_next-at-requires c =
    let next : let a = c.args in NextItem a.bytes.now c.loop-i.text c.loop-i.at c.loop-i.start (get_or a.ends.now c.loop-i.i 0) = next_item _ _ _ _ _ _ _ c.loop-i.invariant (omega arith) c.requires.1 in
    (next).room

pub loop-i-preserved : goal.loop-i-preserved
loop-i-preserved c =
    listed_more _ _ _ _ _ _ _ c.loop-i.invariant (omega arith) c.requires.1 _ _ c.put_next-at.ensures c.put_next-at.auto.text

pub returns : goal.returns
returns c = listed_done _ _ _ _ _ _ _ c.loop-i.invariant (omega arith)
