-- `copy_joined`: the bytes met so far stand at the front of the buffer.
use native.Mathlib.Omega.{arith}
use Rattle.lines.proofs.Walk.{copied_start, copied_room, copied_more, copied_line, copied_over}
use Rattle.lines.proofs.joiner.copy_joined.Goals as goal

pub loop-c-init : goal.loop-c-init
loop-c-init c =
    copied_start c.args.file.now c.args.start c.args.buffer.now c.requires.0

pub copy_piece-piece-requires : goal.copy_piece-piece-requires
copy_piece-piece-requires c =
    let l = c.loop-c in
    let p = c.physical_line-end in
    copied_room c.args.file.now c.args.start l.c l.n c.args.buffer.now l.buffer l.invariant p.result p.ensures c.requires.1

pub returns-then-piece : goal.returns-then-piece
returns-then-piece c =
    let l = c.loop-c in
    let p = c.physical_line-end in
    let q = c.copy_piece-piece in
    copied_line c.args.file.now c.args.start l.c l.n c.args.buffer.now l.buffer l.invariant p.result p.ensures q.result q.ensures.answer _ q.ensures.held c.if-piece.true

pub loop-c-preserved : goal.loop-c-preserved
loop-c-preserved c =
    let l = c.loop-c in
    let p = c.physical_line-end in
    let q = c.copy_piece-piece in
    copied_more c.args.file.now c.args.start l.c l.n c.args.buffer.now l.buffer l.invariant p.result p.ensures q.result q.ensures.answer _ q.ensures.held q.auto.buffer c.if-piece.false

pub returns : goal.returns
returns c =
    let l = c.loop-c in
    copied_over c.args.file.now c.args.start l.c l.n c.args.buffer.now l.buffer l.invariant (omega arith)
