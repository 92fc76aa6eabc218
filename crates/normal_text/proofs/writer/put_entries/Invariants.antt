-- `put_entries`: the loop keeps `EntriesPut`.
use Rattle.lookup.specs.Decoding.{lent_of}
use Rattle.normal_text.proofs.SectionPuts.{EntriesPut, left_from}
use Rattle.normal_text.proofs.writer.put_entries.Given as goal

abbrev pub invariant-loop-next : goal.invariant-loop-next
invariant-loop-next l = EntriesPut (lent_of l.table) l.section l.initial.out l.at l.next l.end l.out

abbrev pub decreases-loop-next : goal.decreases-loop-next
decreases-loop-next l = left_from l.table.entry_count l.next
