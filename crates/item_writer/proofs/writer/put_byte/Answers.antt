-- `put_byte` puts one of the three forms of a byte.
use mathlib.Core.Path.{sym, ◌∙◌}
use native.Mathlib.Omega.{arith}
use Rattle.lines.proofs.Putting.{puts_byte, puts_copied}
use Rattle.item_writer.proofs.Forms.{as_letter, as_itself, as_digits}
use Rattle.item_writer.proofs.writer.put_byte.Goals as goal

pub returns-in-Some : goal.returns-in-Some
returns-in-Some c =
    rw (as_letter _ _ c.in-Some.ensures) (puts_copied _ _ _ _ (omega arith) c.copy_into.ensures.held)

pub returns-then-is_between : goal.returns-then-is_between
returns-then-is_between c =
    rw (as_itself _ c.in_default.ensures (sym c.is_between.ensures ∙ c.if-is_between.true)) (puts_byte _ _ _ (omega arith))

pub returns : goal.returns
returns c =
    let form = as_digits _ c.in_default.ensures (sym c.is_between.ensures ∙ c.if-is_between.false) in
    rw (form, sym c.hex_digit.ensures, sym c.hex_digit-2.ensures)
    (puts_copied _ _ _ _ (omega arith) c.copy_into-2.ensures.held)
