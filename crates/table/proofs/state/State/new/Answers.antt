-- `State::new` is the state of the empty table.
use Rattle.std.proofs.Common.{refl}
use Rattle.table.specs.Tables.{names, entries}
use Rattle.table.specs.Contents.{text_of}
use Rattle.table.proofs.state.State.new.Goals as goal

pub returns : goal.returns
unfolding text_of names entries
returns c = refl
