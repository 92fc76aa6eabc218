-- `put_quoted`: the invariant is `Quoted`.
use native.Mathlib.Omega.{arith}
use Rattle.item_writer.proofs.Quoting.{quoted_start, quoted_more}
use Rattle.item_writer.proofs.writer.put_quoted.Goals as goal

pub loop-b-init : goal.loop-b-init
loop-b-init c = quoted_start _ _ _

pub loop-b-preserved : goal.loop-b-preserved
loop-b-preserved c =
    quoted_more _ _ _ _ _ _ c.loop-b.invariant (omega arith) c.requires _ _ c.put_byte-end.ensures c.put_byte-end.auto.text
