-- `bare_piece`: by the byte that stands there.
use mathlib.Core.Path.{sym, ◌∙◌}
use borrow.Author.Tests.{ne_eqb}
use Rattle.items.specs.declared.pieces.Mode.TheVariants.{Bare}
use Rattle.items.proofs.PieceSteps.{bare_blank, bare_quote, bare_byte_lem}
use Rattle.items.proofs.pieces.bare_piece.Goals as goal

pub returns-then-is_blank : goal.returns-then-is_blank
returns-then-is_blank c = bare_blank _ _ c.requires (sym c.is_blank.ensures ∙ c.if-is_blank.true)

pub returns-then-is_quote : goal.returns-then-is_quote
returns-then-is_quote c = bare_quote _ _ c.requires (sym c.is_blank.ensures ∙ c.if-is_blank.false) (sym c.is_quote.ensures ∙ c.if-is_quote.true)

pub returns-then-b-eq92 : goal.returns-then-b-eq92
returns-then-b-eq92 c = c.escape_piece.ensures Bare

pub returns : goal.returns
returns c = bare_byte_lem _ _ c.requires (ne_eqb _ _ c.if-b-eq92.false) (sym c.is_blank.ensures ∙ c.if-is_blank.false) (sym c.is_quote.ensures ∙ c.if-is_quote.false)
