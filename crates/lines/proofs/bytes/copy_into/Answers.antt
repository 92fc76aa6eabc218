-- `copy_into`: the loop stores one element after another, each at its place.
use mathlib.Core.Path.{ap, ◌∙◌}
use native.Mathlib.Omega.{arith}
use native.Mathlib.Numerals.{add-one}
use native.Mathlib.Nat.{le_antisymm}
use Prim.Native.Nat.{◌+◌}
use lib.ListN.{length, set}
use lib.Seq.{paste, paste-zero, paste-suc, take-length}
use borrow.Author.Tests.{le-leb}
use Rattle.lines.proofs.bytes.copy_into.Goals as goal

pub loop-i-init : goal.loop-i-init
loop-i-init g c = paste-zero c.args.buffer.now c.args.at c.args.part.now

pub loop-i-preserved : goal.loop-i-preserved
loop-i-preserved g c =
    let a = c.args in
    let i = c.loop-i.i in
    let x = c.index-part-i.result in
    rw (c.loop-i.invariant, add-one)
    (ap (set (paste a.buffer.now a.at a.part.now i) (a.at + i)) c.index-part-i.is
    ∙ paste-suc a.buffer.now a.at a.part.now i x (omega arith) (omega arith))

pub returns-clause-held : goal.returns-clause-held
returns-clause-held g c =
    let a = c.args in
    let e = le_antisymm c.loop-i.auto.i-end c.loop-i-test.false in
    rw (le-leb (a.at + length a.part.now) (length a.buffer.now) (omega arith)) (c.loop-i.invariant ∙ rw (e, take-length))
