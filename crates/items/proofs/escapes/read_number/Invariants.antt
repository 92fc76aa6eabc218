-- `read_number`: the digits read so far have the number `value`.
use Rattle.items.proofs.Digits.{DigitsRead}
use Rattle.items.proofs.escapes.read_number.Given as goal

abbrev pub invariant-loop-c : goal.invariant-loop-c
invariant-loop-c l = DigitsRead l.text l.base l.count l.c-index l.value
