-- `passed_parts`: each part that is well-formed lengthens the front.
use mathlib.Core.Path.{refl}
use Prim.Native.Nat.{◌+◌, zero-le}
use native.Mathlib.Omega.{arith}
use Rattle.std.proofs.Common.{rules}
use Rattle.lines.specs.Utf8.{utf8, well}
use Rattle.lines.proofs.StdUtf8.{part_passed}
use Rattle.lines.proofs.utf8.passed_parts.Goals as goal

pub loop-at-init : goal.loop-at-init
unfolding utf8 well
loop-at-init c = (zero-le, refl)

pub loop-at-preserved : goal.loop-at-preserved
loop-at-preserved c =
    let t = c.args.text.now in
    let i = c.loop-at.at in (
      omega (arith, c.part_length.ensures.inside),
      part_passed t i _ (i + c.part_length.result) c.loop-at.invariant.1 (c.is_utf8.ensures.0 (search rules)) (omega arith),
    )
