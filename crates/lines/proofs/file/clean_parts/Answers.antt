-- `clean_parts`: each part without a control byte lengthens the front.
use mathlib.Core.Path.{refl, sym, ◌∙◌}
use Prim.Native.Nat.{◌+◌, zero-le}
use native.Mathlib.Omega.{arith}
use Rattle.lines.specs.Bytes.{any}
use Rattle.lines.proofs.FileLaws.{part_clean}
use Rattle.lines.proofs.file.clean_parts.Goals as goal

pub loop-at-init : goal.loop-at-init
unfolding any
loop-at-init c = (zero-le, refl)

pub loop-at-preserved : goal.loop-at-preserved
loop-at-preserved c =
    let f = c.args.file.now in
    let i = c.loop-at.at in (
      omega (arith, c.min.ensures),
      part_clean f i _ (i + c.min.result) c.loop-at.invariant.1 (sym c.has_control.ensures ∙ c.if-has_control.false) (omega arith),
    )
