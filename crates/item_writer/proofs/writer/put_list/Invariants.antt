-- `put_list`: the invariant is `Listed`.
use Rattle.item_writer.proofs.Lists.{Listed}
use Rattle.item_writer.proofs.writer.put_list.Given as goal

abbrev pub invariant-loop-i : goal.invariant-loop-i
invariant-loop-i l = Listed l.bytes l.ends l.initial.text l.text l.at l.start l.i
