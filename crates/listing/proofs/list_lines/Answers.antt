-- `list_lines` ends: each line moves the cursor on, in the file.
use Rattle.std.proofs.Common.{◌≡◌, ◌<◌, ◌≤◌, length, subst, arith, Option, Some, Ok}
use Rattle.lines.specs.Bytes.{Bytes}
use Rattle.lines.specs.Cursors.{NextLine}
use Rattle.lines.specs.declared.joiner.Cursor.{Cursor}
use Rattle.lines.specs.declared.joiner.LogicalLine.{LogicalLine}
use Rattle.lines.proofs.Laws.{found_tells}
use Rattle.listing.proofs.list_lines.Goals as goal

onward : (f : Bytes) (c : Cursor) (before after : Bytes) (found : Option LogicalLine) (line : LogicalLine)
    → found ≡ Some line → NextLine f c before after (Ok found) → (c.offset < line.next.offset) × (line.next.offset ≤ length f)
onward f c before after found line e h =
    let P : Option LogicalLine → Type 0 = λ o. NextLine f c before after (Ok o) in
    let tells = found_tells f c before after line.length line.first line.next (subst P e h) in
    (tells.later, tells.inside)

pub loop-line-smaller : goal.loop-line-smaller
loop-line-smaller g c =
    let on = onward _ _ _ _ _ _ c.in-Ok-Some.field-0-is c.in-Ok-Some.ensures in
    omega (arith, on.0, on.1)
