-- `last_end` is the element at the last index.
use mathlib.Core.Path.{◌≡◌, ◌∙◌}
use Rattle.std.proofs.Common.{◌-◌, rules, length, unwrap_or, slice_get}
use Rattle.item_writer.proofs.Cuts.{last_is}
use Rattle.item_writer.proofs.writer.last_end.Goals as goal

pub returns : goal.returns
returns c =
    let e : c.unwrap_or.result ≡ unwrap_or (slice_get c.args.ends.now (length c.args.ends.now - 1)) 0 = search rules in
    e ∙ last_is c.args.ends.now
