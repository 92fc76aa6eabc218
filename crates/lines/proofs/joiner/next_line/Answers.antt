-- `next_line`: the cursor is judged, comments are skipped, the line is measured, and only then copied.
use mathlib.Core.Path.{refl, ap, ◌∙◌}
use mathlib.Core.List.{List}
use native.Mathlib.Omega.{arith}
use lib.ListN.{length}
use Rattle.lines.specs.Lines.{Line}
use Rattle.lines.specs.Buffers.{filled}
use Rattle.lines.specs.LineSteps.{first_bytes}
use Rattle.lines.proofs.CursorSteps.{onward_number}
use Rattle.lines.proofs.Reading.{promised, from_past, from_outside, next_short, next_none, next_over, next_too_long, next-measured, answer_measured}
use Rattle.lines.proofs.joiner.next_line.Goals as goal

pub returns-then-buffer-lt4096 : goal.returns-then-buffer-lt4096
returns-then-buffer-lt4096 c =
    let a = c.args in
    promised a.file.now a.cursor a.buffer.now a.buffer.now _ _ (next_short a.file.now a.cursor (length a.buffer.now) (omega arith)) refl refl

pub returns-then-file-cursor : goal.returns-then-file-cursor
returns-then-file-cursor c =
    let a = c.args in
    promised a.file.now a.cursor a.buffer.now a.buffer.now _ _ (next_none a.file.now a.cursor (length a.buffer.now) (omega arith) (from_past a.file.now a.cursor (omega arith))) refl refl

pub returns-then-cursor : goal.returns-then-cursor
returns-then-cursor c =
    let a = c.args in
    promised a.file.now a.cursor a.buffer.now a.buffer.now _ _ (next_none a.file.now a.cursor (length a.buffer.now) (omega arith) (from_outside a.file.now a.cursor c.if-cursor.true)) refl refl

pub returns-then-file-start : goal.returns-then-file-start
returns-then-file-start c =
    let a = c.args in
    let k = c.skip_comments-start in
    promised a.file.now a.cursor a.buffer.now a.buffer.now _ _ (next_over a.file.now a.cursor k.result (length a.buffer.now) (omega arith) c.if-cursor.false k.ensures c.if-file-start.true) refl refl

pub measure-length-requires : goal.measure-length-requires
measure-length-requires c =
    let a = c.args in
    let k = c.skip_comments-start in
    record {
      at = record { inside = c.if-file-start.false; number = onward_number a.file.now a.cursor k.result c.if-cursor.false k.ensures.onward };
      stands = k.ensures.stands;
    }

pub returns-then-length-gt4096 : goal.returns-then-length-gt4096
returns-then-length-gt4096 c =
    let a = c.args in
    let k = c.skip_comments-start in
    let m = c.measure-length in
    promised a.file.now a.cursor a.buffer.now a.buffer.now _ _ (next_too_long a.file.now a.cursor k.result (length a.buffer.now) (omega arith) c.if-cursor.false k.ensures m.result m.ensures (omega arith)) refl refl

pub copy_joined-requires : goal.copy_joined-requires
copy_joined-requires c =
    let a = c.args in
    let k = c.skip_comments-start in
    let m = c.measure-length in (
      record {
        at = record { inside = c.if-file-start.false; number = onward_number a.file.now a.cursor k.result c.if-cursor.false k.ensures.onward };
        stands = k.ensures.stands;
      },
      omega (arith, c.if-buffer-lt4096.false, c.if-length-gt4096.false, m.ensures.length_is, ap (λ (r : List Line). length (first_bytes r)) m.ensures.view),
    )

pub returns : goal.returns
returns c =
    let a = c.args in
    let k = c.skip_comments-start in
    let m = c.measure-length in
    promised a.file.now a.cursor a.buffer.now _ _ _
    (next-measured a.file.now a.cursor k.result (length a.buffer.now) (omega arith) c.if-cursor.false k.ensures m.result m.ensures (omega arith))
    (answer_measured a.file.now a.cursor k.result (length a.buffer.now) (omega arith) c.if-cursor.false k.ensures m.result m.ensures)
    (c.copy_joined.ensures ∙ ap (λ (r : List Line). filled (first_bytes r) a.buffer.now) m.ensures.view)
