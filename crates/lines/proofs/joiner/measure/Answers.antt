-- `measure`: the bytes met so far wait for what the rest of the file gives.
use native.Mathlib.Omega.{arith}
use Rattle.lines.proofs.Walk.{walk_start, walk_more, piece_shorter, measured_line, measured_over}
use Rattle.lines.proofs.joiner.measure.Goals as goal

pub loop-c-init : goal.loop-c-init
loop-c-init c = walk_start c.args.file.now c.args.start c.requires

pub overflow_add-length : goal.overflow_add-length
overflow_add-length c =
    let f = c.args.file.now in
    let l = c.loop-c in
    let p = c.physical_line-end in
    let q = c.piece_of-piece in
    omega (arith, piece_shorter f _ l.c l.length l.invariant p.result p.ensures, q.ensures.length_is, p.ensures.stops)

pub returns-then-piece : goal.returns-then-piece
returns-then-piece c =
    let f = c.args.file.now in
    let l = c.loop-c in
    let p = c.physical_line-end in
    let q = c.piece_of-piece in
    measured_line f _ l.c l.length l.invariant p.result p.ensures q.result q.ensures c.if-piece.true

pub loop-c-preserved : goal.loop-c-preserved
loop-c-preserved c =
    let f = c.args.file.now in
    let l = c.loop-c in
    let p = c.physical_line-end in
    let q = c.piece_of-piece in
    walk_more f _ l.c l.length l.invariant p.result p.ensures q.result q.ensures c.if-piece.false

pub returns : goal.returns
returns c =
    let l = c.loop-c in
    measured_over c.args.file.now _ l.c l.length l.invariant c.requires.at (omega arith)
