-- `put_sections`: the loop keeps `SectionsPut`.
use Rattle.lookup.specs.Decoding.{lent_of}
use Rattle.normal_text.specs.Steps.{entries_said}
use Rattle.normal_text.proofs.SectionPuts.{SectionsPut}
use Rattle.normal_text.proofs.writer.put_sections.Given as goal

abbrev pub invariant-loop-j : goal.invariant-loop-j
invariant-loop-j l = SectionsPut l.table.text.now l.table.sections.now l.table.section_count (entries_said (lent_of l.table)) l.initial.out l.j l.end l.out
