-- Blanks at both ends of a text do not matter: it has the tokens of its trimmed form. The tokens of a text with one
-- more byte in front are told from those of the text.
use mathlib.Core.Path.{◌≡◌, sym, ap, ◌∙◌}
use Prim.Native.Nat.{ℕ}
use mathlib.Core.Bool.{true, false, cond}
use mathlib.Core.List.{[], ◌∷◌, ◌++◌, append-nil}
use Rattle.lines.specs.Bytes.{Bytes, blank, all}
use Rattle.lines.specs.Trim.{trim_start, trim_end, trimmed}
use Rattle.lines.proofs.Bools.{by_cases, is_false, impossible}
use Rattle.lines.proofs.Trimming.{trim_start_blanks, trim_end_nil, trim_end-all, trim_end_some, trimmed_both}
use Rattle.values.specs.Spans.{alike, lengthen, runs, tokens}
use Rattle.values.proofs.Classes.{shared, blank_class}
use Rattle.values.proofs.Runs.{runs-alike, tokens-trim_start}

pub tokens-before : (a t : Bytes) → all blank a ≡ true → tokens (runs (a ++ t)) ≡ tokens (runs t)
tokens-before a t h =
    tokens-trim_start (a ++ t) ∙ ap (λ (s : Bytes). tokens (runs s)) (trim_start_blanks a t h) ∙ sym (tokens-trim_start t)

tokens-blank : (b : ℕ) (t : Bytes) → blank b ≡ true → tokens (runs (b ∷ t)) ≡ tokens (runs t)
unfolding all
tokens-blank b t h = tokens-before (b ∷ []) t (rw h)

-- alike to a byte that is no blank, a byte is none either
alike-blank : (b c : ℕ) → blank b ≡ false → alike b c ≡ true → blank c ≡ false
alike-blank b c h e =
    shared b c e (λ p k x y. is_false (blank c) (λ z. impossible (sym h ∙ sym (blank_class c b z) ∙ k c b y ∙ x)))

-- one byte more that is no blank: at the start of the first token, or a token by itself
tokens_more : (b c : ℕ) (t : Bytes) → blank b ≡ false
    → tokens (runs (b ∷ c ∷ t)) ≡ cond (alike b c) (lengthen b (tokens (runs (c ∷ t)))) ((b ∷ []) ∷ tokens (runs (c ∷ t)))
unfolding tokens runs all
tokens_more b c t h =
    by_cases (alike b c)
    (λ e. rw (e, runs-alike c t, h, alike-blank b c h e))
    (λ e. rw (e, h))

-- a byte before a text without the blanks at its end
tokens_front : (b : ℕ) (t : Bytes) → tokens (runs (trim_end t)) ≡ tokens (runs t)
    → tokens (runs (b ∷ trim_end t)) ≡ tokens (runs (b ∷ t))
unfolding tokens runs all
tokens_front b [] e = rw trim_end_nil
tokens_front b (c ∷ t) e =
    by_cases (blank b)
    (λ y. tokens-blank b (trim_end (c ∷ t)) y ∙ e ∙ sym (tokens-blank b (c ∷ t) y))
    (λ y. by_cases (all blank (c ∷ t))
    (λ z. let n : [] ≡ tokens (runs (c ∷ t)) = rw (trim_end-all c t z) at e in
    rw (trim_end-all c t z, tokens_more b c t y, ← n) (by_cases (alike b c) (λ x. rw (x, y)) (λ x. rw (x, y))))
    (λ z. let n : tokens (runs (c ∷ trim_end t)) ≡ tokens (runs (c ∷ t)) = rw (trim_end_some c t z) at e in
    rw (trim_end_some c t z) (tokens_more b c (trim_end t) y ∙ rw n (sym (tokens_more b c t y)))))

tokens-trim_end : (t : Bytes) → tokens (runs (trim_end t)) ≡ tokens (runs t)
tokens-trim_end [] = rw trim_end_nil
tokens-trim_end (b ∷ t) =
    by_cases (all blank (b ∷ t))
    (λ e. rw (trim_end-all b t e) (sym (rw append-nil at (tokens-before (b ∷ t) [] e))))
    (λ e. rw (trim_end_some b t e) (tokens_front b t (tokens-trim_end t)))

pub tokens-trimmed : (t : Bytes) → tokens (runs (trimmed t)) ≡ tokens (runs t)
tokens-trimmed t = rw (trimmed_both t) (tokens-trim_end (trim_start t) ∙ sym (tokens-trim_start t))
