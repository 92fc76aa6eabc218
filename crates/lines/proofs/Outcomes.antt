-- What equations between outcomes say: an outcome is accepted or refused, and never both.
use mathlib.Core.Path.{◌≡◌, sym, ◌∙◌}
use Prim.Native.Nat.{ℕ}
use Rattle.lines.specs.Answers.{Outcome, accepted, refused}
use Rattle.lines.proofs.Bools.{clash}

-- what an outcome that was accepted says
pub accepted_is : {A : Type 0} (x y : A) → accepted x ≡ accepted y → x ≡ y
accepted_is x y e = cc e

pub not_accepted : {A : Type 0} {X : Type 0} (n p : ℕ) (x : A) → refused n p ≡ accepted x → X
not_accepted n p x e = let z : ◌≡◌ {A = ℕ} 0 1 = cc e in clash z

-- what is made of an outcome, accepted of what is accepted and the same refusal of a refusal, has no refusal of its own
pub same_refusal : {A B : Type 0} (made : Outcome A → Outcome B) → ((x : A) → (y : B) × (made (accepted x) ≡ accepted y))
    → ((n p : ℕ) → made (refused n p) ≡ refused n p) → (o : Outcome A) (n p : ℕ) → made o ≡ refused n p → o ≡ refused n p
same_refusal made f g (accepted x) n p e = not_accepted n p (f x).0 (sym e ∙ (f x).1)
same_refusal made f g (refused m q) n p e =
    let z : refused m q ≡ refused n p = sym (g m q) ∙ e in
    let y : m ≡ n = cc z in
    let i : q ≡ p = cc z in
    rw (y, i)
