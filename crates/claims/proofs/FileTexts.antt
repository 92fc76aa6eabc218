-- The normal text of a file: it fits, and is its own normal text; and what a call for it with buffers of its own for the
-- reader says and leaves.
use mathlib.Core.Path.{◌≡◌, refl, sym, ap, ◌∙◌}
use Prim.Native.Nat.{ℕ, ◌-◌, ◌≤◌}
use native.Mathlib.Omega.{arith}
use mathlib.Core.List.{List}
use lib.Dec.{ltb}
use lib.ListN.{length, take}
use borrow.Author.Tests.{le-ltb, ltb-false}
use Rattle.lines.specs.Bytes.{Bytes}
use Rattle.lines.specs.Answers.{Outcome, accepted, refused}
use Rattle.lines.specs.Buffers.{filled}
use Rattle.lines.proofs.Bools.{by_cases}
use Rattle.lines.proofs.Buffers.{take-filled, length-filled}
use Rattle.table.specs.Tables.{Table, and_then, verdict}
use Rattle.table.specs.Answers.{number_of, place_of, error_means}
use Rattle.table.specs.declared.error.Error.{Error}
use Rattle.normal_text.specs.Sections.{Pair, Section, sections_of, sections_in}
use Rattle.normal_text.specs.NormalText.{normal_text}
use Rattle.normal_text.specs.Answers.{normal_means, normal_of, sized, out_after, normal_in, Normalizes}
use Rattle.std.specs.Prelude.{Result, Ok, Err}
use Rattle.normal_text.specs.declared.normal.Sizes.{Sizes}
use Rattle.normal_text.proofs.Laws.{normal_text_fits, normal_text_reads_back, enough_space_decides}
use Rattle.claims.specs.TwoTexts.{text_of_file, filled_with}
use Rattle.claims.specs.Steps.{length_of, measured, text_in, NormalInto}
use Rattle.lines.proofs.Outcomes.{not_accepted, same_refusal}

-- ---- the normal text of a file

-- the normal text of a table, or the refusal
text_of_table : Outcome Table → Outcome Bytes
text_of_table (accepted t) = accepted (normal_of t)
text_of_table (refused n p) = refused n p

-- is that of the file
text_of_table_lem : (f : Bytes) → text_of_table (verdict f) ≡ text_of_file f
unfolding text_of_table text_of_file sections_in and_then
text_of_table_lem f = go (verdict f)
  where
    go : (o : Outcome Table) → text_of_table o ≡ and_then (and_then o (λ t. accepted (sections_of t))) (λ ss. accepted (normal_text ss))
    go (accepted t) = refl
    go (refused n p) = refl

-- the normal text of what a file holds
pub text_is : (f : Bytes) (o : Outcome (List (Section Pair))) → sections_in f ≡ o → text_of_file f ≡ and_then o (λ ss. accepted (normal_text ss))
unfolding text_of_file
text_is f o e = rw e

-- a file with a normal text holds sections, and it is theirs
pub record TextOf (f x : Bytes) : Type 0 where
  pub held : List (Section Pair)
  pub accepts : sections_in f ≡ accepted held
  pub text : x ≡ normal_text held

pub text_of : (f x : Bytes) → text_of_file f ≡ accepted x → TextOf f x
unfolding and_then
text_of f x e = go (sections_in f) refl
  where
    go : (o : Outcome (List (Section Pair))) → sections_in f ≡ o → TextOf f x
    go (accepted ss) h = let y : accepted (normal_text ss) ≡ accepted x = sym (text_is f (accepted ss) h) ∙ e in record { held = ss; accepts = h; text = cc (sym y) }
    go (refused n p) h = not_accepted n p x (sym (text_is f (refused n p) h) ∙ e)

-- it fits
pub text_short : (f x : Bytes) → text_of_file f ≡ accepted x → length x ≤ 65535
text_short f x e =
    let t = text_of f x e in
    let l = normal_text_fits f t.held t.accepts in
    omega (arith, ap length t.text, l.0, l.1)

-- and is its own normal text
pub text_again : (f x : Bytes) → text_of_file f ≡ accepted x → text_of_file x ≡ accepted x
unfolding and_then
text_again f x e =
    let t = text_of f x e in
    text_is x (accepted t.held) (ap sections_in t.text ∙ normal_text_reads_back f t.held t.accepts) ∙ ap accepted (sym t.text)

-- ---- a call with buffers of its own for the reader

-- with an output buffer that is not short, the text is that of the file
pub text_in_lem : (n : ℕ) (f : Bytes) → 65535 ≤ n → text_in n f ≡ text_of_file f
unfolding text_in
text_in_lem n f h = rw (le-ltb n 65535 h)

module _ (f text : Bytes) (sections entries : List ℕ) (out : Bytes) (r : Result Sizes Error) (text' : Bytes) (sections' entries' : List ℕ) (out' : Bytes)
    (p : Normalizes f text sections entries out r text' sections' entries' out') where
  -- the table of the call
  abbrev outcome : Outcome Table
  outcome = normal_in (length text) (length sections) (length entries) (length out) f

  -- its normal text is that of the file, unless the output buffer is short
  outcome_is : 65535 ≤ length text → 128 ≤ length sections → 2560 ≤ length entries → text_of_table outcome ≡ text_in (length out) f
  unfolding text_of_table normal_in text_in
  outcome_is a b c =
      by_cases (ltb (length out) 65535)
      (λ e. rw e)
      (λ e. let h = ltb-false (length out) 65535 e in
      ap text_of_table (enough_space_decides _ _ _ _ f a b c h) ∙ text_of_table_lem f ∙ sym (text_in_lem (length out) f h))

  -- the length, and the output buffer, say no more of the table than that text
  length_told : (o : Outcome Table) → length_of (sized o) ≡ measured (text_of_table o)
  unfolding text_of_table
  length_told (accepted t) = refl
  length_told (refused n p) = refl

  after_told : (o : Outcome Table) → out_after o out ≡ filled_with (text_of_table o) out
  unfolding text_of_table
  after_told (accepted t) = refl
  after_told (refused n p) = refl

  -- so the call keeps the promise
  pub into_holds : 65535 ≤ length text → 128 ≤ length sections → 2560 ≤ length entries → NormalInto f out r out'
  into_holds a b c =
      let o = outcome_is a b c in
      record {
        answer = ap length_of p.answer ∙ length_told outcome ∙ ap measured o;
        new_out = p.new_out ∙ after_told outcome ∙ ap (λ (z : Outcome Bytes). filled_with z out) o;
      }

-- ---- what such a call says, by its answer

-- accepted: the normal text is there, as long as the answer says
pub record IntoText (f out : Bytes) (n : ℕ) (out' : Bytes) : Type 0 where
  pub text : Bytes
  pub long : 65535 ≤ length out
  pub is : text_of_file f ≡ accepted text
  pub said : n ≡ length text
  pub after : out' ≡ filled text out
  pub inside : n ≤ length out'
  pub front : take n out' ≡ text

module _ (f out : Bytes) (r : Result Sizes Error) (out' : Bytes) (p : NormalInto f out r out') where
  pub into_text : (made : Sizes) → r ≡ Ok made → IntoText f out made.length out'
  unfolding text_in
  into_text made q =
      by_cases (ltb (length out) 65535)
      (λ e. let s : measured (text_in (length out) f) ≡ refused 1 0 = rw e in not_accepted 1 0 made.length (sym s ∙ said))
      (λ e. go (ltb-false (length out) 65535 e) (text_of_file f) refl)
    where
      said : measured (text_in (length out) f) ≡ accepted made.length
      said = sym p.answer ∙ ap (λ (z : Result Sizes Error). length_of (normal_means z)) q

      go : 65535 ≤ length out → (o : Outcome Bytes) → text_of_file f ≡ o → IntoText f out made.length out'
      go h (refused i j) e = not_accepted i j made.length (sym (ap measured (text_in_lem (length out) f h ∙ e)) ∙ said)
      go h (accepted x) e =
          let o = text_in_lem (length out) f h ∙ e in
          let z : accepted (length x) ≡ accepted made.length = sym (ap measured o) ∙ said in
          let l : made.length ≡ length x = cc (sym z) in
          let d : made.length ≡ length x = omega (arith, l) in
          let a : out' ≡ filled x out = p.new_out ∙ ap (λ (y : Outcome Bytes). filled_with y out) o in
          let s = text_short f x e in
          record {
            text = x;
            long = h;
            is = e;
            said = l;
            after = a;
            inside = omega (arith, l, ap length a, length-filled x out (omega (arith, s, h)));
            front = ap (λ (i : ℕ). take i out') d ∙ ap (take (length x)) a ∙ take-filled x out;
          }

  -- refused: that is the outcome, and the buffer is as it was
  pub into_refused : (e : Error) → r ≡ Err e → (text_in (length out) f ≡ error_means e) × (out' ≡ out)
  into_refused e q =
      let s : measured (text_in (length out) f) ≡ error_means e = sym p.answer ∙ ap (λ (z : Result Sizes Error). length_of (normal_means z)) q in
      let o = same_refusal measured (λ x. (length x, refl)) (λ m j. refl) (text_in (length out) f) (number_of e) (place_of e) s in
      (o, p.new_out ∙ ap (λ (z : Outcome Bytes). filled_with z out) o)
