-- `holds_table`: the sections, then the entries.
use mathlib.Core.Path.{sym, ◌∙◌}
use Rattle.lookup.specs.Decoding.{lent_of}
use mathlib.Core.Bool.{true≢false}
use Rattle.lookup.proofs.Soundness.{good_sound, sound_sections, sound_entries, holds}
use Rattle.lookup.proofs.lent.Lent.holds_table.Goals as goal

pub returns-then-sections_good : goal.returns-then-sections_good
returns-then-sections_good c =
    holds (lent_of c.args.self) _
    (λ q. good_sound (lent_of c.args.self) (c.sections_good.ensures.fits c.if-sections_good.true, c.sections_good.ensures.each c.if-sections_good.true) (c.entries_good.ensures.fits q, c.entries_good.ensures.each q))
    (λ s. c.entries_good.ensures.full (sound_entries (lent_of c.args.self) s))

pub returns-else-sections_good : goal.returns-else-sections_good
returns-else-sections_good c =
    holds (lent_of c.args.self) _
    (λ q. absurd (true≢false (sym q ∙ c.if-sections_good.false)))
    (λ s. c.sections_good.ensures.full (sound_sections (lent_of c.args.self) s))
