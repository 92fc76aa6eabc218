-- `read_lines`: the loop keeps `Reading`; each turn is one of `read_line`.
use Rattle.std.proofs.Common.{◌≡◌, ◌-◌, length}
use Rattle.table.proofs.ReadingAll.{Reading}
use Rattle.table.proofs.builder.Builder.read_lines.Given as goal

abbrev pub invariant-loop-next : goal.invariant-loop-next
invariant-loop-next l = Reading l.file l.initial.self l.self l.cursor × (length l.line ≡ 4096)

abbrev pub decreases-loop-next : goal.decreases-loop-next
decreases-loop-next l = length l.file - l.cursor.offset
