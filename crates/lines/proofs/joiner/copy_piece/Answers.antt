-- `copy_piece`: the line is copied whole, and the last byte of a continued one becomes a space.
use borrow.Author.Tests.{not-true, not-false}
use Rattle.lines.proofs.Pieces.{put_nothing, put_line, put_open}
use Rattle.lines.proofs.joiner.copy_piece.Goals as goal

pub returns-then-piece-eq0 : goal.returns-then-piece-eq0
returns-then-piece-eq0 c =
    let p = c.piece_of-piece in
    record { answer = p.ensures; held = put_nothing c.args.line.now c.args.buffer.now c.args.n p.result p.ensures c.if-piece-eq0.true }

pub returns-then-not-piece : goal.returns-then-not-piece
returns-then-not-piece c =
    let p = c.piece_of-piece in
    record { answer = p.ensures; held = put_open c.args.line.now c.args.buffer.now c.args.n p.result p.ensures c.if-piece-eq0.false c.requires _ c.copy_into.ensures.held (not-true _ c.if-not-piece.true) }

pub returns-else-not-piece : goal.returns-else-not-piece
returns-else-not-piece c =
    let p = c.piece_of-piece in
    record { answer = p.ensures; held = put_line c.args.line.now c.args.buffer.now c.args.n p.result p.ensures c.if-piece-eq0.false c.requires _ c.copy_into.ensures.held (not-false _ c.if-not-piece.false) }
