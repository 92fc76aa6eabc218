-- `set_alike`, by the answers of the two calls: the normal texts of two files are equal exactly where they hold the same.
use mathlib.Core.Path.{◌≡◌, refl, sym, ap, subst, ◌∙◌}
use mathlib.Core.Logic.{◌↔◌}
use Prim.Native.Nat.{ℕ, ◌+◌, ◌-◌, ◌≤◌, ◌<◌}
use native.Mathlib.Nat.{zero-add}
use native.Mathlib.Omega.{arith}
use mathlib.Core.Bool.{Bool, true, cond}
use mathlib.Core.List.{List}
use lib.Dec.{leb, ltb}
use lib.ListN.{length, take}
use borrow.Author.Tests.{lt-ltb, le-ltb}
use Rattle.lines.specs.Bytes.{Bytes, equal}
use Rattle.lines.specs.Answers.{Outcome, accepted, refused}
use Rattle.lines.specs.Buffers.{filled, put}
use Rattle.lines.specs.declared.error.Error.TheVariants.{ShortBuffer}
use Rattle.lines.proofs.Bools.{equal_eq, equal_refl, or_right}
use Rattle.lines.proofs.Buffers.{copied}
use Rattle.table.specs.Tables.{and_then}
use Rattle.table.specs.Answers.{number_of, place_of, error_means}
use Rattle.table.specs.declared.error.Error.{Error}
use Rattle.table.specs.declared.error.Error.TheVariants.{File}
use Rattle.normal_text.specs.Sections.{Pair, Section, sections_in}
use Rattle.normal_text.specs.NormalText.{normal_text}
use Rattle.std.specs.Prelude.{Result, Ok, Err}
use Rattle.normal_text.specs.declared.normal.Sizes.{Sizes}
use Rattle.normal_text.proofs.Laws.{normal_text_tells}
use Rattle.claims.specs.TwoTexts.{text_of_file, filled_with, OfTwo, both, first, second, HeldByEach, held_by, alike_in, alike_means, Tells, held_after, SetAlike}
use Rattle.claims.specs.Steps.{NormalInto, compared, text_beside, Compares}
use Rattle.claims.specs.declared.two_texts.AlikeError.{AlikeError}
use Rattle.claims.specs.declared.two_texts.AlikeError.TheVariants.{First, Second}
use Rattle.lines.proofs.Outcomes.{same_refusal}
use Rattle.claims.proofs.FileTexts.{TextOf, text_is, text_of, text_short, text_in_lem, IntoText, into_text, into_refused}

-- ---- the second file, where the buffer for its text is not short

module _ (t g out other : Bytes) (r : Result Sizes Error) (other' : Bytes) (h : 65535 ≤ length other) (p : NormalInto g other r other') where
  -- what is owed where the outcome is known
  compares : (o : Outcome Bytes) → text_of_file g ≡ o → (s : Result Bool AlikeError) (out' : Bytes)
      → alike_means s ≡ compared t o → out' ≡ text_beside t o out → other' ≡ filled_with o other → Compares t g out other s out' other'
  compares o e s out' a b c =
      record {
        answer = a ∙ sym (ap (compared t) e);
        new_out = b ∙ sym (ap (λ (z : Outcome Bytes). text_beside t z out) e);
        other_after = c ∙ sym (ap (λ (z : Outcome Bytes). filled_with z other) e);
      }

  -- it is refused
  pub compares_refused : (e : Error) → r ≡ Err e → Compares t g out other (Err (Second e)) out other'
  compares_refused e q =
      let i = into_refused g other r other' p e q in
      compares (error_means e) (sym (text_in_lem (length other) g h) ∙ i.0) (Err (Second e)) out refl refl i.1

  -- it is accepted; the first text is copied, and compared with its own
  pub compares_accepted : (made : Sizes) → r ≡ Ok made → length t ≤ length out
      → (out' : Bytes) → out' ≡ cond (leb (0 + length t) (length out)) (put out 0 t) out
      → (b : Bool) → b ≡ equal t (take made.length other') → Compares t g out other (Ok b) out' other'
  compares_accepted made q l out' c b e =
      let x = into_text g other r other' p made q in
      let z : 0 + length t ≤ length out = omega (arith, l) in
      compares (accepted x.text) x.is (Ok b) out'
      (ap both (e ∙ ap (equal t) x.front))
      (copied out out' t 0 z c ∙ rw zero-add)
      x.after

-- ---- both files

-- two texts are equal exactly where their files hold the same
texts_tell : (f g x u : Bytes) (a : TextOf f x) (b : TextOf g u) → (equal x u ≡ true) ↔ (a.held ≡ b.held)
texts_tell f g x u a b =
    let i = normal_text_tells f g a.held b.held a.accepts b.accepts in (
      λ e. i.1 (sym a.text ∙ equal_eq x u e ∙ b.text),
      λ e. ap (equal x) (sym (a.text ∙ i.0 e ∙ sym b.text)) ∙ equal_refl x,
    )

module _ (f g out other : Bytes) where
  -- what is owed where the outcome is known
  alike : (o : OfTwo HeldByEach) → alike_in (length out) (length other) f g ≡ o → (r : Result Bool AlikeError) (out' other' : Bytes)
      → Tells o (alike_means r) → out' ≡ held_after (λ h. h.file) o out → other' ≡ held_after (λ h. h.other) o other
      → SetAlike f g out other r out' other'
  alike o e r out' other' a b c =
      record {
        answer = subst (λ (z : OfTwo HeldByEach). Tells z (alike_means r)) (sym e) a;
        new_out = b ∙ sym (ap (λ (z : OfTwo HeldByEach). held_after (λ h. h.file) z out) e);
        other_after = c ∙ sym (ap (λ (z : OfTwo HeldByEach). held_after (λ h. h.other) z other) e);
      }

  -- a short buffer
  pub alike_short_out : length out < 65535 → SetAlike f g out other (Err (First (File ShortBuffer))) out other
  unfolding alike_in
  alike_short_out h = alike (first 1 0) (rw (lt-ltb (length out) 65535 h)) (Err (First (File ShortBuffer))) out other refl refl refl

  pub alike_short_other : length other < 65535 → SetAlike f g out other (Err (First (File ShortBuffer))) out other
  unfolding alike_in
  alike_short_other h =
      alike (first 1 0) (rw (or_right (ltb (length out) 65535) (ltb (length other) 65535) (lt-ltb (length other) 65535 h))) (Err (First (File ShortBuffer))) out other refl refl refl

  module _ (ho : 65535 ≤ length out) (hg : 65535 ≤ length other) (text : Bytes) (ht : 65535 ≤ length text) (r : Result Sizes Error) (text' : Bytes)
      (p : NormalInto f text r text') where
    -- none is short: what the files hold decides
    alike_is : alike_in (length out) (length other) f g ≡ held_by (sections_in f) (sections_in g)
    unfolding alike_in
    alike_is = rw (le-ltb (length out) 65535 ho, le-ltb (length other) 65535 hg)

    -- the first file is refused
    pub alike_refused : (e : Error) → r ≡ Err e → SetAlike f g out other (Err (First e)) out other
    unfolding and_then
    alike_refused e q =
        let made : Outcome (List (Section Pair)) → Outcome Bytes = λ o. and_then o (λ ss. accepted (normal_text ss)) in
        let t : made (sections_in f) ≡ error_means e = sym (text_is f (sections_in f) refl) ∙ sym (text_in_lem (length text) f ht) ∙ (into_refused f text r text' p e q).0 in
        let c = same_refusal made (λ ss. (normal_text ss, refl)) (λ m j. refl) (sections_in f) (number_of e) (place_of e) t in
        alike (first (number_of e) (place_of e)) (alike_is ∙ rw c) (Err (First e)) out other refl refl refl

    -- the first file is accepted
    module _ (made : Sizes) (q : r ≡ Ok made) where
      abbrev known : IntoText f text made.length text'
      known = into_text f text r text' p made q

      -- its text lies in the buffer
      pub text_inside : made.length ≤ length text'
      text_inside = known.inside

      -- and fits the lent one
      pub text_fits_out : length (take made.length text') ≤ length out
      text_fits_out = omega (arith, ap length known.front, text_short f known.text known.is, ho)

      -- the second has been compared with it
      pub alike-compared : (s : Result Bool AlikeError) (out' other' : Bytes) → Compares (take made.length text') g out other s out' other' → SetAlike f g out other s out' other'
      unfolding and_then
      alike-compared s out' other' c = go (sections_in g) refl
        where
          a : TextOf f known.text
          a = text_of f known.text known.is

          go : (o : Outcome (List (Section Pair))) → sections_in g ≡ o → SetAlike f g out other s out' other'
          go (accepted ts) e =
              let b : TextOf g (normal_text ts) = record { held = ts; accepts = e; text = refl } in
              let t = text_is g (accepted ts) e in
              let z : alike_means s ≡ both (equal known.text (normal_text ts)) = c.answer ∙ ap (compared (take made.length text')) t ∙ ap (λ (y : Bytes). both (equal y (normal_text ts))) known.front in
              alike (both (record { file = a.held; other = ts })) (alike_is ∙ rw (a.accepts, e)) s out' other'
              (subst (λ (y : OfTwo Bool). Tells (both (record { file = a.held; other = ts })) y) (sym z) (texts_tell f g known.text (normal_text ts) a b))
              (c.new_out ∙ ap (λ (y : Outcome Bytes). text_beside (take made.length text') y out) t ∙ ap (λ (y : Bytes). filled y out) (known.front ∙ a.text))
              (c.other_after ∙ ap (λ (y : Outcome Bytes). filled_with y other) t)
          go (refused u v) e =
              let t = text_is g (refused u v) e in
              alike (second u v) (alike_is ∙ rw (a.accepts, e)) s out' other'
              (c.answer ∙ ap (compared (take made.length text')) t)
              (c.new_out ∙ ap (λ (y : Outcome Bytes). text_beside (take made.length text') y out) t)
              (c.other_after ∙ ap (λ (y : Outcome Bytes). filled_with y other) t)
