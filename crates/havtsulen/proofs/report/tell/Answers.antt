-- `tell`: its four numbers and its answer are a reply, for what is accepted or for a refusal.
use mathlib.Core.Path.{◌≡◌, refl, sym, ap, ◌∙◌}
use lib.ListN.{length}
use Rattle.std.proofs.Common.{rules}
use Rattle.lines.specs.Buffers.{filled}
use Rattle.havtsulen.proofs.Reporting.{accepts, refuses, four_numbers}
use Rattle.havtsulen.proofs.report.tell.Goals as goal

pub returns-in-Ok : goal.returns-in-Ok
returns-in-Ok g c =
    let four : length c.numbers.result ≡ 4 = search (rules, c.numbers.type_inv) in
    let n = four_numbers c.numbers.result four in
    rw c.in-Ok.is
    (accepts g.T.Told.told _ c.args.report.now c.requires _ _ c.in-Ok.accepted refl _ _ _ _ (sym c.numbers.ensures ∙ n)
    (record { answer = refl; new_report = c.put.ensures ∙ ap (λ ns. filled ns c.args.report.now) n }))

pub returns-in-Err : goal.returns-in-Err
returns-in-Err g c =
    rw c.in-Err.is
    (refuses g.T.Told.told _ c.args.report.now c.requires _ _ _ _ refl (g.met.E.Refusal.never_0 c.in-Err.e) c.number.result c.place.result c.number.ensures c.place.ensures
    (record { answer = refl; new_report = c.put-in-Err.ensures }))
