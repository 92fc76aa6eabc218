-- `line_length`: `position` finds the first LF.
use Rattle.std.proofs.Common.{◌≡◌, ℕ, [], ◌∷◌, refl, sym, ◌∙◌, rules, tests, ◌+◌, add-one}
use Rattle.std.proofs.lemmas.Iterator.{IsFirst-from_position, index_from_first, YieldsList-from_slice}
use borrow.Author.Tests.{eq-eqb, ne_eqb}
use Rattle.lines.specs.Bytes.{Bytes}
use Rattle.lines.specs.LineSteps.{line_length}
use Rattle.listing.proofs.notation.line_length.Goals as goal

at_lf : (x : ℕ) (xs : Bytes) → x ≡ 10 → line_length (x ∷ xs) ≡ 0
unfolding line_length
at_lf x xs e = rw (eq-eqb x 10 e)

past : (x : ℕ) (xs : Bytes) → (x ≡ 10 → ⊥) → line_length (x ∷ xs) ≡ line_length xs + 1
unfolding line_length
past x xs n = rw (ne_eqb x 10 n, add-one)

at_end : line_length [] ≡ 0
unfolding line_length
at_end = refl

pub returns : goal.returns
returns c =
    let t = c.args.text.now in
    let first = IsFirst-from_position _ _ _ (λ x. x ≡ 10) (λ x. x ≡ 10 → ⊥) c.position.ensures.ran (YieldsList-from_slice t cc) (λ x q k. search (rules, tests)) (λ x q k. search (rules, tests)) in
    c.unwrap_or.ensures ∙ sym (index_from_first line_length (λ x. x ≡ 10) (λ x. x ≡ 10 → ⊥) at_end at_lf past t _ first)
