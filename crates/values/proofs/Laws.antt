-- The laws that specs/Laws.antt states, each by the module that proves it.
use Rattle.values.specs.Laws.{RunsLongest, SpelledHasForm, FormIsSpelled, SpelledAnswer, OtherAnswer}
use Rattle.values.proofs.Runs.{runs-alike}
use Rattle.values.proofs.Verdict.{span_some, span_none}
use Rattle.values.proofs.Spelling.{spells_read}
use Rattle.values.proofs.Reading.{read_spells}

pub runs_are_longest : RunsLongest
runs_are_longest = runs-alike

pub spelled_has_form : SpelledHasForm
spelled_has_form = spells_read

pub form_is_spelled : FormIsSpelled
form_is_spelled = read_spells

pub spelled_answer : SpelledAnswer
spelled_answer t ps s = span_some t ps (spells_read t ps s)

pub other_answer : OtherAnswer
other_answer t h = span_none t (λ ps e. h ps (read_spells t ps e))
