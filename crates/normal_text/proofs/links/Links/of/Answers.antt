-- `Links::of`: the loop keeps `Linking`.
use Rattle.lookup.specs.Decoding.{lent_of}
use Rattle.normal_text.proofs.LinkLaws.{link_start, link_step}
use Rattle.normal_text.proofs.links.Links.of.Goals as goal

pub loop-i-init : goal.loop-i-init
loop-i-init c = link_start (lent_of c.args.table)

pub loop-i-preserved : goal.loop-i-preserved
loop-i-preserved c =
    link_step (lent_of c.args.table) c.requires.sound c.requires.few_sections c.requires.few_entries c.loop-i.i _ _ c.loop-i.invariant c.loop-i-test.true
