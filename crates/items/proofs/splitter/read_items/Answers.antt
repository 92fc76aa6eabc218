-- `read_items`: the loop keeps `Collecting`; its items are those of `next_item`.
use native.Mathlib.Omega.{arith}
use borrow.Author.Rules.{rules}
use Rattle.items.proofs.StepCases.{step_known}
use Rattle.items.proofs.SplitLoop.{collecting_start, collecting_end, collecting_refused, place_left, collecting_more}
use Rattle.items.proofs.splitter.read_items.Goals as goal

pub loop-next-init : goal.loop-next-init
loop-next-init c = collecting_start _ _ _

pub bounds-ends-count : goal.bounds-ends-count
bounds-ends-count c =
    let r = step_known c.args.text.now _ c.loop-next.length c.loop-next.bytes c.next_item.new.buffer _ _ c.in-Item.is c.next_item.ensures in
    omega (arith, place_left _ _ _ _ c.loop-next.ends _ _ _ c.loop-next.invariant _ _ _ r, c.loop-next.invariant.same_ends, c.requires.2)

pub loop-next-preserved : goal.loop-next-preserved
loop-next-preserved c =
    let r = step_known c.args.text.now _ c.loop-next.length c.loop-next.bytes c.next_item.new.buffer _ _ c.in-Item.is c.next_item.ensures in
    collecting_more _ _ _ _ c.loop-next.ends _ _ _ c.loop-next.invariant c.next_item.new.buffer _ _ r c.requires.2 (search rules)

pub returns-in-End : goal.returns-in-End
returns-in-End c =
    let r = step_known c.args.text.now _ c.loop-next.length c.loop-next.bytes c.next_item.new.buffer _ _ c.in-End.is c.next_item.ensures in
    collecting_end _ _ _ _ _ _ _ _ c.loop-next.invariant c.requires.0 c.next_item.new.buffer r

pub returns-in-Refused : goal.returns-in-Refused
returns-in-Refused c =
    let r = step_known c.args.text.now _ c.loop-next.length c.loop-next.bytes c.next_item.new.buffer _ _ c.in-Refused.is c.next_item.ensures in
    collecting_refused _ _ _ _ _ _ _ _ c.loop-next.invariant _ _ r
