-- `check_bytes`: first UTF-8, then control bytes.
use mathlib.Core.Path.{sym, ap, ◌∙◌}
use native.Mathlib.Omega.{arith}
use Rattle.lines.specs.Answers.{refused}
use Rattle.lines.specs.Files.{line_at}
use Rattle.lines.proofs.FileLaws.{checked_broken, checked_first, checked_past}
use Rattle.lines.proofs.file.check_bytes.Goals as goal

pub returns-then-end-file : goal.returns-then-end-file
returns-then-end-file c =
    let f = c.args.file.now in
    let e = c.well_formed_length-end.ensures in
    ap (λ n. refused 3 n) (c.line_at.ensures ∙ ap (λ n. line_at n f) e)
    ∙ sym (checked_broken f (omega (arith, e, c.if-end-file.true)))

pub returns-then-first-file : goal.returns-then-first-file
returns-then-first-file c =
    let f = c.args.file.now in
    let e = c.first_control-first.ensures in
    ap (λ n. refused 4 n) (c.line_at-then-first-file.ensures ∙ ap (λ n. line_at n f) e)
    ∙ sym (checked_first f (omega (arith, c.well_formed_length-end.ensures, c.if-end-file.false)) (omega (arith, e, c.if-first-file.true)))

pub returns : goal.returns
returns c =
    sym (checked_past c.args.file.now (omega (arith, c.well_formed_length-end.ensures, c.if-end-file.false))
    (omega (arith, c.first_control-first.ensures, c.if-first-file.false)))
