-- `put_sections`: the loop keeps `SectionsPut`.
use native.Mathlib.Omega.{arith}
use Rattle.normal_text.proofs.SectionPuts.{header_fits, entries_fit, sections_more, sections_end}
use Rattle.normal_text.proofs.writer.put_sections.Goals as goal

pub put_name-end-requires : goal.put_name-end-requires
put_name-end-requires c = (omega (arith, c.requires.sound.sections_there, c.loop-j-test.true), c.requires.sound.names c.loop-j.j c.loop-j-test.true, header_fits _ _ _ _ _ _ _ _ c.loop-j.invariant c.loop-j-test.true)

pub put_entries-end-requires-clause-space : goal.put_entries-end-requires-clause-space
put_entries-end-requires-clause-space c = entries_fit _ _ _ _ _ _ _ _ c.loop-j.invariant c.loop-j-test.true _ _ c.put_name-end.ensures

pub loop-j-preserved : goal.loop-j-preserved
loop-j-preserved c = sections_more _ _ _ _ _ _ _ _ c.loop-j.invariant c.loop-j-test.true _ _ c.put_name-end.ensures _ _ c.put_entries-end.ensures

pub returns : goal.returns
returns c = sections_end _ _ _ _ _ _ _ _ c.loop-j.invariant c.loop-j-test.false
