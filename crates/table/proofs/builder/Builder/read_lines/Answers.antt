-- `read_lines`: the loop keeps `Reading`; each turn is one of `read_line`.
use Rattle.std.specs.Prelude.{Err}
use Rattle.std.proofs.Common.{◌≡◌, arith, rules}
use Rattle.table.proofs.ReadingAll.{reading_start, text_below, reading_more, reading_end, reading_refused}
use Rattle.table.proofs.builder.Builder.read_lines.Goals as goal

pub loop-next-init : goal.loop-next-init
loop-next-init c = (reading_start c.args.file.now c.args.self.now _ c.first-cursor.ensures c.requires.1, search rules)

pub read_line-requires : goal.read_line-requires
read_line-requires c = (omega (arith, c.loop-next.invariant.1), text_below _ _ _ _ c.loop-next.invariant.0, c.requires.0)

pub loop-next-smaller : goal.loop-next-smaller
loop-next-smaller c = let a = c.args.self.now in
    let i = c.loop-next.invariant.0 in
    let l = (rw c.in-Some.is at c.in_ok-next.ensures) i.table a.text a.sections a.entries i.holds in
    omega (arith, l.later, l.inside)

pub loop-next-preserved : goal.loop-next-preserved
loop-next-preserved c = let a = c.args.self.now in
    let i = c.loop-next.invariant.0 in
    let l = (rw c.in-Some.is at c.in_ok-next.ensures) i.table a.text a.sections a.entries i.holds in
    (reading_more _ _ _ _ i c.read_line.new.self c.in-Some.next l, search rules)

pub returns-in_err-next : goal.returns-in_err-next
returns-in_err-next c = let a = c.args.self.now in
    let i = c.loop-next.invariant.0 in
    let q : c.from_residual.result ≡ Err c.in_err-next.field-0.0 = search rules in
    rw q (reading_refused _ _ _ _ i c.read_line.new.self _ (c.in_err-next.ensures i.table a.text a.sections a.entries i.holds))

pub returns : goal.returns
returns c = let a = c.args.self.now in
    let i = c.loop-next.invariant.0 in
    reading_end _ _ _ _ i c.read_line.new.self ((rw c.in_default.is at c.in_ok-next.ensures) i.table a.text a.sections a.entries i.holds) c.requires.0
