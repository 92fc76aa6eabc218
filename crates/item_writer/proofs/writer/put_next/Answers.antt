-- `put_next` puts a space before the item where others stand before it.
use native.Mathlib.Omega.{arith}
use Rattle.item_writer.proofs.Written.{following_first}
use Rattle.item_writer.proofs.Items.{puts_behind}
use Rattle.item_writer.proofs.writer.put_next.Goals as goal

pub returns-then-count-eq0 : goal.returns-then-count-eq0
returns-then-count-eq0 c =
    rw (following_first _ _ c.if-count-eq0.true) c.put_item.ensures

pub returns : goal.returns
returns c =
    puts_behind _ _ _ _ _ _ c.if-count-eq0.false (omega arith) c.put_item-2.ensures
