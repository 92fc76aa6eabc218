-- A run of a class, with blanks behind it and then no byte of the class, is a token of its own. So digits alone are
-- one token, and a text of more tokens is read as parts.
use mathlib.Core.Path.{◌≡◌, refl, sym, ◌∙◌}
use Prim.Native.Nat.{ℕ, ◌<◌}
use native.Mathlib.Omega.{arith}
use mathlib.Core.Bool.{Bool, true, false}
use mathlib.Core.List.{List, [], ◌∷◌, ◌++◌, append-nil}
use lib.ListN.{length}
use lib.Seq.{drop-append_seam}
use Rattle.lines.specs.Bytes.{Bytes, blank, digit, all}
use Rattle.lines.proofs.Bools.{by_cases, and_left, is_false, impossible, clash}
use Rattle.values.specs.Spans.{runs, tokens, parts_of, span_parts, longest}
use Rattle.values.proofs.Longest.{longest_append}
use Rattle.lines.proofs.ByteClasses.{digit-blank}
use Rattle.values.proofs.Classes.{Class, digit_class}
use Rattle.values.proofs.Runs.{tokens-run}
use Rattle.values.proofs.Verdict.{parts_units}
use Rattle.values.proofs.Blanks.{tokens-before}

-- ---- a run before other bytes

-- bytes of another class before a text: none passes at the start, if they are some or if none does in the text
pub longest_other : (p q : ℕ → Bool) → ((b : ℕ) → q b ≡ true → p b ≡ false) → (a t : Bytes) → all q a ≡ true
    → (length a ≡ 0 → longest p t ≡ []) → longest p (a ++ t) ≡ []
unfolding longest all
longest_other p q k [] t h f = f refl
longest_other p q k (b ∷ a) t h f = rw (k b (and_left (q b) (all q a) h))

-- a run, blanks, and a text that starts with no byte of its class
module _ (p : ℕ → Bool) (class : Class p) (no_blank : (b : ℕ) → p b ≡ true → blank b ≡ false) where
  pub tokens-run-before : (w gap t : Bytes) → 0 < length w → all p w ≡ true → all blank gap ≡ true → longest p t ≡ []
      → tokens (runs (w ++ (gap ++ t))) ≡ w ∷ tokens (runs t)
  tokens-run-before w gap t l h g e =
      let other : (b : ℕ) → blank b ≡ true → p b ≡ false = λ b y. is_false (p b) (λ x. impossible (sym (no_blank b x) ∙ y)) in
      let none : longest p (gap ++ t) ≡ [] = longest_other p blank other gap t g (λ z. e) in
      let run : longest p (w ++ (gap ++ t)) ≡ w = longest_append p w (gap ++ t) h ∙ rw none (append-nil w) in
      tokens-run p class no_blank (w ++ (gap ++ t)) (rw run l)
      ∙ rw (run, drop-append_seam w (gap ++ t), tokens-before gap t g)

-- ---- the two forms

pub digits_token : (t : Bytes) → 0 < length t → all digit t ≡ true → tokens (runs t) ≡ t ∷ []
unfolding longest tokens runs all
digits_token t l h = rw append-nil at (tokens-run-before digit digit_class digit-blank t [] [] l h refl refl)

pub span_tokens : (t n u : Bytes) (ts : List Bytes) → tokens (runs t) ≡ n ∷ u ∷ ts → span_parts t ≡ parts_of (tokens (runs t))
unfolding tokens runs
span_tokens [] n u ts e = clash cc
span_tokens (b ∷ bs) n u ts e =
    by_cases (all digit (b ∷ bs))
    (λ y. let w : tokens (runs (b ∷ bs)) ≡ (b ∷ bs) ∷ [] = digits_token (b ∷ bs) (omega arith) y in clash cc)
    (λ y. parts_units (b ∷ bs) y (rw e (omega arith)))
