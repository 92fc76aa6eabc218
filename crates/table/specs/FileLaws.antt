-- What decides the verdict on a file: a statement, proved in proofs/FileLaws.antt.
use Rattle.std.specs.Prelude.{◌≡◌}
use Rattle.lines.specs.Bytes.{Bytes}
use Rattle.lines.specs.Lines.{logical}
use Rattle.lines.specs.Files.{checked_file}
use Rattle.lines.specs.CommentLaws.{without_ends}
use Rattle.table.specs.Tables.{verdict}

-- Two files of which the check says the same, and whose logical lines have the same numbers and bytes, have the same
-- table, or the same refusal at the same place: the offsets in a file decide nothing.
abbrev pub LinesDecide : Type 0
LinesDecide = (f g : Bytes) → checked_file f ≡ checked_file g → without_ends (logical f) ≡ without_ends (logical g) → verdict f ≡ verdict g
