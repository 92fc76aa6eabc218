-- `put_entries`: the loop keeps `EntriesPut`.
use native.Mathlib.Omega.{arith}
use Rattle.lookup.specs.Decoding.{lent_of}
use Rattle.normal_text.proofs.SectionPuts.{at_some, entries_start, entry-there, entry-fits, entries_fewer, entries_more, entries_end}
use Rattle.normal_text.proofs.writer.put_entries.Goals as goal

pub loop-next-init : goal.loop-next-init
loop-next-init c = entries_start _ _ _ _ c.requires.linked.linked _ _ (omega (arith, c.requires.linked.first_count, c.requires.section)) c.requires.space

pub overflow_mul-i : goal.overflow_mul-i
overflow_mul-i c =
    let p = at_some (lent_of c.args.table) c.args.section c.in-Some.is c.loop-next.invariant in
    record { fits = omega (arith, c.requires.sound.entries_there, entry-there _ _ _ _ _ _ _ p, c.requires.few) }

pub put_record-end-requires : goal.put_record-end-requires
put_record-end-requires c =
    let p = at_some (lent_of c.args.table) c.args.section c.in-Some.is c.loop-next.invariant in
    let h = entry-there _ _ _ _ _ _ _ p in
    let s = c.requires.sound in
    (omega (arith, s.entries_there, h), s.keys c.in-Some.i h, s.values c.in-Some.i h, entry-fits _ _ _ _ _ _ _ p)

pub offset_bounds-links-i : goal.offset_bounds-links-i
offset_bounds-links-i c =
    let p = at_some (lent_of c.args.table) c.args.section c.in-Some.is c.loop-next.invariant in
    record { fits = omega (arith, entry-there _ _ _ _ _ _ _ p, c.requires.few) }

pub bounds-links-i : goal.bounds-links-i
bounds-links-i c =
    let p = at_some (lent_of c.args.table) c.args.section c.in-Some.is c.loop-next.invariant in
    omega (arith, entry-there _ _ _ _ _ _ _ p, c.requires.few)

pub loop-next-smaller : goal.loop-next-smaller
loop-next-smaller c =
    let p = at_some (lent_of c.args.table) c.args.section c.in-Some.is c.loop-next.invariant in
    rw c.in-Some.is (entries_fewer _ _ _ _ _ _ _ p _ _ c.requires.linked.linked)

pub loop-next-preserved : goal.loop-next-preserved
loop-next-preserved c =
    let p = at_some (lent_of c.args.table) c.args.section c.in-Some.is c.loop-next.invariant in
    entries_more _ _ _ _ _ _ _ p _ _ c.requires.linked.linked _ _ c.put_record-end.ensures

pub returns : goal.returns
returns c = entries_end _ _ _ _ _ _ (rw c.in_default.is at c.loop-next.invariant)
