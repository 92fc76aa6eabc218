-- `skip_comments`: the lines at the cursor reached are those at the start.
use mathlib.Core.Path.{refl, sym, ap, ◌∙◌}
use native.Mathlib.Omega.{arith}
use Rattle.lines.specs.Lines.{comment}
use Rattle.lines.proofs.CursorSteps.{onward_here, onward_more, onward_number}
use Rattle.lines.proofs.Slices.{part_from}
use Rattle.lines.proofs.Walk.{skip_more, comment_over}
use Rattle.lines.proofs.joiner.skip_comments.Goals as goal

pub loop-c-init : goal.loop-c-init
loop-c-init c =
    (onward_here c.args.file.now c.args.start c.requires.0, c.requires.1, refl)

pub loop-c-preserved : goal.loop-c-preserved
loop-c-preserved c =
    let f = c.args.file.now in
    let l = c.loop-c in
    let p = c.physical_line in
    let t = skip_more f l.c p.result p.ensures (ap comment (sym (part_from l.c.offset f)) ∙ sym c.is_comment.ensures ∙ c.if-not-is_comment.false) in
    (onward_more f _ l.c p.result.next l.invariant.0 p.ensures.onward, onward_number f l.c p.result.next l.invariant.1 p.ensures.onward, l.invariant.2 ∙ t)

pub returns : goal.returns
returns c =
    let f = c.args.file.now in
    let l = c.loop-c in
    record { onward = l.invariant.0; lines = l.invariant.2; stands = comment_over f l.c.offset (omega arith) }
