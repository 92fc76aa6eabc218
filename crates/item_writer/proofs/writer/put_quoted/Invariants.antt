-- `put_quoted`: the invariant is `Quoted`.
use Rattle.item_writer.proofs.Quoting.{Quoted}
use Rattle.item_writer.proofs.writer.put_quoted.Given as goal

abbrev pub invariant-loop-b : goal.invariant-loop-b
invariant-loop-b l = Quoted l.item l.initial.text l.at l.text l.end l.b-index
