-- `piece_of`: a comment gives nothing; any other line its own length, and goes on where it is continued.
use mathlib.Core.Path.{sym, ap, ◌∙◌}
use mathlib.Core.Bool.{not}
use lib.ListN.{length}
use Rattle.lines.proofs.Joining.{piece-comment, piece-length, ends_line}
use Rattle.lines.proofs.joiner.piece_of.Goals as goal

pub returns-then-is_comment : goal.returns-then-is_comment
returns-then-is_comment c =
    let l = c.args.line.now in
    let t = piece-comment l (sym c.is_comment.ensures ∙ c.if-is_comment.true) in
    record { length_is = sym (ap length t.0); ends_is = sym t.1 }

pub returns : goal.returns
returns c =
    let l = c.args.line.now in
    let e = sym c.is_comment.ensures ∙ c.if-is_comment.false in
    record { length_is = sym (piece-length l e); ends_is = ap not c.is_continued-more.ensures ∙ sym (ends_line l e) }
