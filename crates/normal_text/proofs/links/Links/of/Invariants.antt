-- `Links::of`: the loop keeps `Linking`.
use Rattle.lookup.specs.Decoding.{lent_of}
use Rattle.normal_text.proofs.LinkLaws.{Linking}
use Rattle.normal_text.proofs.links.Links.of.Given as goal

abbrev pub invariant-loop-i : goal.invariant-loop-i
invariant-loop-i l = Linking (lent_of l.table) l.i l.firsts l.nexts
