-- `normal_twice`, by the answers of the two calls: the second is on a text that is its own normal text.
use mathlib.Core.Path.{◌≡◌, refl, sym, ap, ◌∙◌}
use Prim.Native.Nat.{ℕ, ◌-◌, ◌≤◌, ◌<◌}
use mathlib.Core.Bool.{or-false}
use lib.Dec.{ltb}
use lib.ListN.{length, take}
use borrow.Author.Tests.{lt-ltb, le-ltb}
use Rattle.lines.specs.Bytes.{Bytes}
use Rattle.lines.specs.Answers.{Outcome, accepted, refused}
use Rattle.lines.specs.declared.error.Error.TheVariants.{ShortBuffer}
use Rattle.table.specs.Answers.{number_of, place_of, error_means}
use Rattle.table.specs.declared.error.Error.{Error}
use Rattle.table.specs.declared.error.Error.TheVariants.{File}
use Rattle.normal_text.specs.Answers.{normal_means}
use Rattle.std.specs.Prelude.{Result, Ok, Err}
use Rattle.normal_text.specs.declared.normal.Sizes.{Sizes}
use Rattle.claims.specs.TwoTexts.{text_of_file, twice_in, twice_means, same_lengths, filled_with, Twice}
use Rattle.claims.specs.Steps.{length_of, measured, text_in, NormalInto}
use Rattle.claims.specs.declared.two_texts.Lengths.{Lengths}
use Rattle.lines.proofs.Bools.{or_right}
use Rattle.lines.proofs.Outcomes.{not_accepted}
use Rattle.claims.proofs.FileTexts.{text_again, text_in_lem, IntoText, into_text, into_refused}

-- two lengths that are one
same_lengths_lem : (n i l : ℕ) → n ≡ l → i ≡ l → twice_means (Ok (record { length = n; again = i })) ≡ accepted (record { length = l; again = l })
same_lengths_lem n i l p q = rw (p, q)

module _ (f out again : Bytes) where
  -- what is owed where the outcome is known
  twice : (o : Outcome Bytes) → twice_in (length out) (length again) f ≡ o → (r : Result Lengths Error) (out' again' : Bytes)
      → twice_means r ≡ same_lengths o → out' ≡ filled_with o out → again' ≡ filled_with o again → Twice f out again r out' again'
  twice o e r out' again' a b c =
      record {
        answer = a ∙ sym (ap same_lengths e);
        new_out = b ∙ sym (ap (λ (z : Outcome Bytes). filled_with z out) e);
        again_after = c ∙ sym (ap (λ (z : Outcome Bytes). filled_with z again) e);
      }

  -- the second buffer is short
  pub twice_short : length again < 65535 → Twice f out again (Err (File ShortBuffer)) out again
  unfolding twice_in
  twice_short h =
      twice (refused 1 0) (rw (or_right (ltb (length out) 65535) (ltb (length again) 65535) (lt-ltb (length again) 65535 h))) (Err (File ShortBuffer)) out again refl refl refl

  module _ (h : 65535 ≤ length again) (r : Result Sizes Error) (out' : Bytes) (p : NormalInto f out r out') where
    -- it is not: the outcome is that of the first call
    twice_is : twice_in (length out) (length again) f ≡ text_in (length out) f
    unfolding twice_in text_in
    twice_is = rw (le-ltb (length again) 65535 h, or-false (ltb (length out) 65535))

    -- the file is refused
    pub twice_refused : (e : Error) → r ≡ Err e → Twice f out again (Err e) out' again
    twice_refused e q =
        let i = into_refused f out r out' p e q in
        twice (error_means e) (twice_is ∙ i.0) (Err e) out' again refl i.1 refl

    module _ (made : Sizes) (q : r ≡ Ok made) (s : Result Sizes Error) (again' : Bytes) (v : NormalInto (take made.length out') again s again') where
      -- the file is accepted
      abbrev known : IntoText f out made.length out'
      known = into_text f out r out' p made q

      -- the text is its own normal text
      own : text_in (length again) (take made.length out') ≡ accepted known.text
      own = text_in_lem (length again) (take made.length out') h ∙ ap text_of_file known.front ∙ text_again f known.text known.is

      -- so it is never refused
      pub twice_never : {X : Type 0} (e : Error) → s ≡ Err e → X
      twice_never e z =
          not_accepted (number_of e) (place_of e) known.text (sym (into_refused (take made.length out') again s again' v e z).0 ∙ own)

      -- and has the same length and bytes
      pub twice_held : (second : Sizes) → s ≡ Ok second → Twice f out again (Ok (record { length = made.length; again = second.length })) out' again'
      twice_held second z =
          let x = known.text in
          let y : accepted second.length ≡ accepted (length x) = sym (ap (λ (w : Result Sizes Error). length_of (normal_means w)) z) ∙ v.answer ∙ ap measured own in
          let l : second.length ≡ length x = cc y in
          twice (accepted x) (twice_is ∙ text_in_lem (length out) f known.long ∙ known.is) (Ok (record { length = made.length; again = second.length })) out' again'
          (same_lengths_lem made.length second.length (length x) known.said l)
          known.after
          (v.new_out ∙ ap (λ (w : Outcome Bytes). filled_with w again) own)
