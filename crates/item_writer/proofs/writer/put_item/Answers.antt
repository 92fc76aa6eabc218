-- `put_item` copies a bare item; another one stands in quotes.
use mathlib.Core.Path.{◌≡◌, sym, ◌∙◌}
use native.Mathlib.Omega.{arith}
use lib.ListN.{length, length-set}
use Rattle.lines.proofs.Putting.{puts_copied}
use Rattle.item_writer.proofs.Written.{item_bare, quoted_most}
use Rattle.item_writer.proofs.Items.{puts_quotes}
use Rattle.item_writer.proofs.writer.put_item.Goals as goal

pub returns-then-is_bare : goal.returns-then-is_bare
returns-then-is_bare c =
    rw (item_bare _ (sym c.is_bare.ensures ∙ c.if-is_bare.true)) (puts_copied _ _ _ _ (omega arith) c.copy_into.ensures.held)

pub bounds-text-end : goal.bounds-text-end
bounds-text-end c =
    let as_long : let a = c.args in length c.put_quoted-end.new.text ≡ length a.text.now = c.put_quoted-end.auto.text ∙ simp length-set in
    let q = c.put_quoted-end in
    omega (arith, as_long, q.ensures.behind, quoted_most c.args.item.now)

pub returns : goal.returns
returns c =
    let as_long : let a = c.args in length c.put_quoted-end.new.text ≡ length a.text.now = c.put_quoted-end.auto.text ∙ simp length-set in
    let quoted = sym c.is_bare.ensures ∙ c.if-is_bare.false in
    puts_quotes _ _ _ _ _ quoted c.requires c.put_quoted-end.ensures (as_long)
