-- `physical_line`: the line ends at the first LF, or at the file's end.
use mathlib.Core.Path.{ap, ◌∙◌}
use native.Mathlib.Omega.{arith}
use Rattle.std.proofs.Common.{◌+◌, drop}
use lib.ListN.{length-drop}
use Rattle.lines.specs.LineSteps.{line_length}
use Rattle.lines.proofs.Slices.{part_from}
use Rattle.lines.proofs.Physicals.{line_length_le}
use Rattle.lines.proofs.CursorSteps.{at_shut, at_open}
use Rattle.lines.proofs.joiner.physical_line.Goals as goal

pub overflow_add-end : goal.overflow_add-end
overflow_add-end c =
    let a = c.args in
    let left = drop a.c.offset a.file.now in
    omega (arith, c.line_length.ensures ∙ ap line_length (part_from a.c.offset a.file.now), line_length_le left, length-drop a.c.offset a.file.now, c.requires.inside, c.well_formed)

pub returns-then-end-file : goal.returns-then-end-file
returns-then-end-file c =
    let a = c.args in
    at_shut a.file.now a.c _ c.requires (ap (λ n. a.c.offset + n) (c.line_length.ensures ∙ ap line_length (part_from a.c.offset a.file.now))) c.if-end-file.true

pub returns : goal.returns
returns c =
    let a = c.args in
    at_open a.file.now a.c _ c.requires (ap (λ n. a.c.offset + n) (c.line_length.ensures ∙ ap line_length (part_from a.c.offset a.file.now))) c.if-end-file.false
