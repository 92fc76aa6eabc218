-- `is_bare`: an item that is not empty is judged byte by byte.
use mathlib.Core.Path.{sym, ◌∙◌}
use native.Mathlib.Omega.{arith}
use Rattle.std.proofs.Common.{rules, tests}
use Rattle.std.proofs.lemmas.Iterator.{YieldsList-from_slice}
use Rattle.std.proofs.lemmas.Iterator.Search.{all_from_yields_List}
use Rattle.items.specs.Write.{bare_byte}
use Rattle.item_writer.proofs.Bare.{bare_some, all_is}
use Rattle.item_writer.proofs.writer.is_bare.Goals as goal

pub returns-in_default : goal.returns-in_default
returns-in_default c =
    let x = c.args.item.now in
    all_from_yields_List bare_byte _ _ c.all.result c.all.ensures.ran (YieldsList-from_slice x cc) (λ y b q k. search (rules, tests))
    ∙ all_is bare_byte x ∙ sym (bare_some x (omega arith))
