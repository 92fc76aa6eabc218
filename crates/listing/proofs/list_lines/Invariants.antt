-- `list_lines` ends: each line moves the cursor on, in the file.
use Rattle.std.proofs.Common.{◌-◌, length}
use Rattle.listing.proofs.list_lines.Given as goal

abbrev pub decreases-loop-line : goal.decreases-loop-line
decreases-loop-line g l = length l.file - l.cursor.offset
