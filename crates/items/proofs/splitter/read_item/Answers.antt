-- `read_item`: the loop keeps `Reading`; its pieces are those of `piece_at`.
use mathlib.Core.Path.{refl, ap, ◌∙◌}
use native.Mathlib.Omega.{arith}
use lib.ListN.{length}
use Rattle.std.specs.Prelude.{Ok}
use Rattle.items.proofs.ItemLoop.{reading_start, reading_byte, reading_more, reading_ended, reading_refused, piece_known}
use Rattle.items.proofs.splitter.read_item.Goals as goal

pub loop-b-init : goal.loop-b-init
loop-b-init c = reading_start _ _ _ _ _ c.requires.1 c.requires.2

pub loop-b-preserved-in-Ok-Plain : goal.loop-b-preserved-in-Ok-Plain
loop-b-preserved-in-Ok-Plain c =
    reading_byte _ _ _ _ _ _ _ _ c.loop-b.invariant _
    (piece_known c.args.mode c.args.text.now c.loop-b.at _ _ (c.in-Ok-Plain.is ∙ ap Ok c.in-Ok-Plain.field-0-is) c.piece_at.ensures) _ refl c.requires.0 (omega arith)

pub store-requires : goal.store-requires
store-requires c =
    let b = piece_known c.args.mode c.args.text.now c.loop-b.at _ _ (c.in-Ok-Bytes.is ∙ ap Ok c.in-Ok-Bytes.field-0-is) c.piece_at.ensures in
    omega (arith, ap length c.as_slice-part.ensures, b.fits, b.inside, c.loop-b.invariant.fits, c.loop-b.invariant.same, c.requires.0)

pub loop-b-preserved : goal.loop-b-preserved
loop-b-preserved c =
    let b = piece_known c.args.mode c.args.text.now c.loop-b.at _ _ (c.in-Ok-Bytes.is ∙ ap Ok c.in-Ok-Bytes.field-0-is) c.piece_at.ensures in
    reading_more _ _ _ _ _ _ _ _ c.loop-b.invariant _ _ b _ c.as_slice-part.ensures _ c.store.ensures c.requires.0 (omega arith)

pub returns-in-Ok-End : goal.returns-in-Ok-End
returns-in-Ok-End c =
    reading_ended _ _ _ _ _ _ _ _ c.loop-b.invariant _
    (piece_known c.args.mode c.args.text.now c.loop-b.at _ _ (c.in-Ok-End.is ∙ ap Ok c.in-Ok-End.field-0-is) c.piece_at.ensures)

pub returns-in-Err : goal.returns-in-Err
returns-in-Err c =
    reading_refused _ _ _ _ _ _ _ _ c.loop-b.invariant _ _
    (piece_known c.args.mode c.args.text.now c.loop-b.at _ _ c.in-Err.is c.piece_at.ensures)
