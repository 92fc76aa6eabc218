-- The runs of a text, taken one by one from its start. A run of a class is the longest one (`longest`), and
-- what stands behind it has its own runs; a run of blanks is no token.
use mathlib.Core.Path.{◌≡◌, refl, sym, ap, fun_ext, ◌∙◌}
use Prim.Native.Nat.{ℕ, ◌<◌}
use native.Mathlib.Omega.{arith}
use mathlib.Core.Bool.{Bool, true, false}
use mathlib.Core.List.{List, [], ◌∷◌}
use lib.ListN.{length, drop}
use Rattle.lines.specs.Bytes.{Bytes, blank, all}
use Rattle.lines.specs.Trim.{trim_start}
use Rattle.lines.proofs.Bools.{by_cases, is_false}
use Rattle.lines.proofs.Trimming.{trim_start-blank, trim_start_nonblank, trim_start_nil, length-trim_start}
use Rattle.values.specs.Spans.{alike, lengthen, runs, tokens, longest}
use Rattle.values.proofs.Longest.{longest-all, longest_more}
use Rattle.values.proofs.Classes.{Class, alike_same, blank_class}

-- ---- runs

-- the first run of any text
pub runs-alike : (b : ℕ) (bs : Bytes)
    → runs (b ∷ bs) ≡ (b ∷ longest (alike b) bs) ∷ runs (drop (length (longest (alike b) bs)) bs)
unfolding runs longest
runs-alike b [] = refl
runs-alike b (c ∷ cs) =
    by_cases (alike b c)
    (λ e. let same : longest (alike c) cs ≡ longest (alike b) cs = ap (λ p. longest p cs) (sym (alike_same b c e)) in
    rw e (ap (lengthen b) (runs-alike c cs) ∙ ap (λ (l : Bytes). (b ∷ c ∷ l) ∷ runs (drop (length l) cs)) same))
    (λ e. rw e)

-- of a text that starts with a byte of a class
runs-longest : (p : ℕ → Bool) → Class p → (b : ℕ) (bs : Bytes) → p b ≡ true
    → runs (b ∷ bs) ≡ longest p (b ∷ bs) ∷ runs (drop (length (longest p (b ∷ bs))) (b ∷ bs))
runs-longest p k b bs h =
    let e : alike b ≡ p = fun_ext (λ c. k b c h) in
    rw (longest_more p b bs h) (rw e at (runs-alike b bs))

-- ---- tokens

-- a run that starts with no blank is a token
token_kept : (b : ℕ) (r : Bytes) (rs : List Bytes) → blank b ≡ false → tokens ((b ∷ r) ∷ rs) ≡ (b ∷ r) ∷ tokens rs
unfolding tokens all
token_kept b r rs h = rw h

token_dropped : (r : Bytes) (rs : List Bytes) → all blank r ≡ true → tokens (r ∷ rs) ≡ tokens rs
unfolding tokens
token_dropped r rs h = rw h

-- the first token of a text that starts with a byte of a class other than blanks
pub tokens-longest : (p : ℕ → Bool) → Class p → ((b : ℕ) → p b ≡ true → blank b ≡ false) → (b : ℕ) (bs : Bytes) → p b ≡ true
    → tokens (runs (b ∷ bs)) ≡ longest p (b ∷ bs) ∷ tokens (runs (drop (length (longest p (b ∷ bs))) (b ∷ bs)))
tokens-longest p k n b bs h =
    let e : longest p (b ∷ bs) ≡ b ∷ longest p bs = longest_more p b bs h in
    ap tokens (runs-longest p k b bs h) ∙ rw e (token_kept b (longest p bs) _ (n b h))

-- the same where it is known only that the run is not empty
pub tokens-run : (p : ℕ → Bool) → Class p → ((b : ℕ) → p b ≡ true → blank b ≡ false) → (t : Bytes) → 0 < length (longest p t)
    → tokens (runs t) ≡ longest p t ∷ tokens (runs (drop (length (longest p t)) t))
unfolding longest
tokens-run p k n [] h = absurd (omega arith)
tokens-run p k n (b ∷ bs) h =
    by_cases (p b)
    (tokens-longest p k n b bs)
    (λ e. let z : 0 < 0 = rw e at h in absurd (omega arith))

-- blanks at the start go
pub trim_start-drop : (t : Bytes) → trim_start t ≡ drop (length (longest blank t)) t
unfolding longest
trim_start-drop [] = trim_start_nil
trim_start-drop (b ∷ bs) =
    by_cases (blank b)
    (λ e. trim_start-blank b bs e ∙ rw e (trim_start-drop bs))
    (λ e. trim_start_nonblank b bs e ∙ rw e)

pub tokens-trim_start : (t : Bytes) → tokens (runs t) ≡ tokens (runs (trim_start t))
tokens-trim_start [] = rw trim_start_nil
tokens-trim_start (b ∷ bs) =
    by_cases (blank b)
    (λ e. ap tokens (runs-longest blank blank_class b bs e)
    ∙ token_dropped (longest blank (b ∷ bs)) _ (longest-all blank (b ∷ bs))
    ∙ ap (λ (t : Bytes). tokens (runs t)) (sym (trim_start-drop (b ∷ bs))))
    (λ e. ap (λ (t : Bytes). tokens (runs t)) (sym (trim_start_nonblank b bs e)))

-- a byte that is no blank starts the first token
pub record First (b : ℕ) (ws : List Bytes) : Type 0 where
  pub behind : Bytes
  pub others : List Bytes
  pub view : ws ≡ (b ∷ behind) ∷ others

first_run : (b : ℕ) (bs : Bytes) → First b (runs (b ∷ bs))
first_run b bs =
    record {
      behind = longest (alike b) bs;
      others = runs (drop (length (longest (alike b) bs)) bs);
      view = runs-alike b bs;
    }

pub first_token : (b : ℕ) (bs : Bytes) → blank b ≡ false → First b (tokens (runs (b ∷ bs)))
first_token b bs h =
    let f = first_run b bs in
    record {
      behind = f.behind;
      others = tokens f.others;
      view = ap tokens f.view ∙ token_kept b f.behind f.others h;
    }

-- the first byte of a text that starts with no blank
pub first_nonblank : (b : ℕ) (bs : Bytes) → trim_start (b ∷ bs) ≡ b ∷ bs → blank b ≡ false
first_nonblank b bs h =
    is_false (blank b)
    (λ e.
    let l : length (trim_start bs) ≡ length (b ∷ bs) = ap length (sym (trim_start-blank b bs e) ∙ h) in
    absurd (omega (arith, length-trim_start bs)))

-- it has a token, if it has a byte
pub some_token : (t : Bytes) → 0 < length t → trim_start t ≡ t → 0 < length (tokens (runs t))
some_token [] l h = absurd (omega arith)
some_token (b ∷ bs) l h = let f = first_token b bs (first_nonblank b bs h) in rw f.view (omega arith)
