-- A text is laid out as its tokens, with blanks before them and behind each: its runs joined are the text, and the
-- runs that are no tokens are blanks.
use mathlib.Core.Path.{◌≡◌, refl, sym, ap, ◌∙◌}
use mathlib.Core.Bool.{true, false}
use mathlib.Core.List.{List, [], ◌∷◌, ◌++◌, flatten, append_assoc}
use Rattle.lines.specs.Bytes.{Bytes, blank, all}
use Rattle.lines.proofs.Bools.{by_cases, both, all_append}
use Rattle.values.specs.Spans.{alike, lengthen, runs, tokens}

-- tokens, each with the blanks behind it; no token is all blanks
pub data Laid : List Bytes → Bytes → Type 0 where
  end : Laid [] []
  token : (w gap : Bytes) {ws : List Bytes} {t : Bytes} → all blank w ≡ false → all blank gap ≡ true
      → Laid ws t → Laid (w ∷ ws) (w ++ (gap ++ t))

-- with blanks before them
pub record Layout (ws : List Bytes) (t : Bytes) : Type 0 where
  pub before : Bytes
  pub others : Bytes
  pub text : t ≡ before ++ others
  pub before_blank : all blank before ≡ true
  pub laid : Laid ws others

joined-runs : (t : Bytes) → flatten (runs t) ≡ t
unfolding flatten runs
joined-runs [] = refl
joined-runs (b ∷ []) = refl
joined-runs (b ∷ c ∷ t) =
    by_cases (alike b c)
    (λ e. rw e (longer (runs (c ∷ t)) ∙ ap (λ (s : Bytes). b ∷ s) (joined-runs (c ∷ t))))
    (λ e. rw e (ap (λ (s : Bytes). b ∷ s) (joined-runs (c ∷ t))))
  where
    longer : (rs : List Bytes) → flatten (lengthen b rs) ≡ b ∷ flatten rs
    longer [] = refl
    longer (r ∷ rs) = refl

runs_layout : (rs : List Bytes) → Layout (tokens rs) (flatten rs)
unfolding flatten tokens all
runs_layout [] = record { before = []; others = []; text = refl; before_blank = refl; laid = end }
runs_layout (r ∷ rs) =
    let l = runs_layout rs in
    by_cases (all blank r)
    (λ e. rw e (record {
      before = r ++ l.before;
      others = l.others;
      text = ap (λ (s : Bytes). r ++ s) l.text ∙ sym (append_assoc r l.before l.others);
      before_blank = all_append blank r l.before ∙ both (all blank r) (all blank l.before) e l.before_blank;
      laid = l.laid;
    }))
    (λ e. rw e (record {
      before = [];
      others = r ++ flatten rs;
      text = refl;
      before_blank = refl;
      laid = rw l.text (token r l.before e l.before_blank l.laid);
    }))

pub layout : (t : Bytes) → Layout (tokens (runs t)) t
layout t = rw (joined-runs t) at (runs_layout (runs t))
