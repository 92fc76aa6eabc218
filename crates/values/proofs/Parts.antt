-- One part at the start of a text that starts with no blank: digits, blanks, letters, blanks. Where there are
-- no digits, or the letters name no unit, the text has not the form.
use mathlib.Core.Path.{◌≡◌, refl, sym, ap, ◌∙◌}
use Prim.Native.Nat.{ℕ, ◌*◌, ◌<◌}
use native.Mathlib.Omega.{arith}
use mathlib.Core.Bool.{Bool, true, false}
use mathlib.Core.Option.{Option, none, some}
use mathlib.Core.List.{List, [], ◌∷◌, ◌++◌, append_assoc}
use lib.ListN.{length, drop, length-append}
use Rattle.lines.specs.Bytes.{Bytes, digit, letter, blank, all}
use Rattle.lines.specs.Trim.{trim_start}
use Rattle.lines.proofs.Bools.{by_cases, is_false, impossible}
use Rattle.lines.proofs.Trimming.{trim_start_idem, length-trim_start}
use Rattle.values.specs.Spans.{numeral, decimal, units, scale_in, runs, tokens, part_of, longest}
use Rattle.values.specs.Steps.{Stands, first_part, PartFound}
use Rattle.std.specs.Prelude.{Option as CodeOption}
use Rattle.values.proofs.Numbers.{some_numeral}
use Rattle.values.proofs.Longest.{Run, longest_more}
use Rattle.lines.proofs.ByteClasses.{digit-blank, letter-blank}
use Rattle.values.proofs.Classes.{digit_class, letter_class}
use Rattle.values.proofs.Runs.{tokens-run, tokens-longest, tokens-trim_start, first_nonblank, first_token}
use Rattle.values.proofs.Units.{scale_letters, some_letter}

-- ---- where the form is wrong

-- a first token that is no number
wrong_number : (n : Bytes) (ts : List Bytes) → numeral n ≡ false → first_part (n ∷ ts) ≡ none
unfolding part_of
wrong_number n [] h = refl
wrong_number n (u ∷ ts) h = rw h

-- a second token that is no unit
wrong_unit : (n u : Bytes) (ts : List Bytes) → scale_in units u ≡ none → first_part (n ∷ u ∷ ts) ≡ none
unfolding part_of
wrong_unit n u ts h = rw h (by_cases (numeral n) (λ e. rw e) (λ e. rw e))

-- a byte that does not pass
none_all : (p : ℕ → Bool) (b : ℕ) (bs : Bytes) → p b ≡ false → all p (b ∷ bs) ≡ false
unfolding all
none_all p b bs h = rw h

-- no digit at the start
pub no_number : (t : Bytes) → trim_start t ≡ t → length (longest digit t) ≡ 0 → first_part (tokens (runs t)) ≡ none
unfolding numeral tokens runs
no_number [] h z = refl
no_number (b ∷ bs) h z =
    let f = first_token b bs (first_nonblank b bs h) in
    let e : digit b ≡ false =
    is_false (digit b) (λ y. let k : length (longest digit (b ∷ bs)) ≡ length (b ∷ longest digit bs) = ap length (longest_more digit b bs y) in absurd (omega arith))
    in
    ap first_part f.view ∙ wrong_number (b ∷ f.behind) f.others (none_all digit b f.behind e)

-- what starts with no letter is no unit
no_letter : (b : ℕ) (bs : Bytes) → letter b ≡ false → scale_in units (b ∷ bs) ≡ none
no_letter b bs h = go (scale_in units (b ∷ bs)) refl
  where
    go : (o : Option ℕ) → scale_in units (b ∷ bs) ≡ o → scale_in units (b ∷ bs) ≡ none
    go none e = e
    go (some s) e = impossible (sym (none_all letter b bs h) ∙ scale_letters (b ∷ bs) s e)

-- a number alone
number_alone : (n : Bytes) → first_part (n ∷ tokens (runs [])) ≡ none
unfolding tokens runs
number_alone n = refl

-- no unit behind a number
no_unit : (n r : Bytes) → trim_start r ≡ r → scale_in units (longest letter r) ≡ none → first_part (n ∷ tokens (runs r)) ≡ none
no_unit n [] h e = number_alone n
no_unit n (b ∷ bs) h e =
    by_cases (letter b)
    (λ y. ap (λ (ts : List Bytes). first_part (n ∷ ts)) (tokens-longest letter letter_class letter-blank b bs y)
    ∙ wrong_unit n (longest letter (b ∷ bs)) (tokens (runs (drop (length (longest letter (b ∷ bs))) (b ∷ bs)))) e)
    (λ y.
    let f = first_token b bs (first_nonblank b bs h) in
    ap (λ (ts : List Bytes). first_part (n ∷ ts)) f.view
    ∙ wrong_unit n (b ∷ f.behind) f.others (no_letter b f.behind y))

-- ---- where it is right

-- digits and a unit
right_part : (n u : Bytes) (k : ℕ) → numeral n ≡ true → scale_in units u ≡ some k
    → part_of n u ≡ some (record { number = decimal n; scale = k })
unfolding part_of
right_part n u k h e = rw (h, e)

-- the unit at the start of a text, and the tokens behind it
unit_at : (r : Bytes) (k : ℕ) → scale_in units (longest letter r) ≡ some k
    → tokens (runs r) ≡ longest letter r ∷ tokens (runs (trim_start (drop (length (longest letter r)) r)))
unit_at r k e =
    tokens-run letter letter_class letter-blank r (some_letter (longest letter r) k e)
    ∙ ap (λ (ts : List Bytes). longest letter r ∷ ts) (tokens-trim_start (drop (length (longest letter r)) r))

-- ---- by what is read: digits, blanks, letters, blanks

-- the blanks at the start of a text, and the rest
blanks_first : (t : Bytes) → (front : Bytes) × (t ≡ front ++ trim_start t)
unfolding trim_start
blanks_first [] = ([], refl)
blanks_first (b ∷ bs) =
    by_cases (blank b)
    (λ e. let c = blanks_first bs in (b ∷ c.0, rw e (ap (λ (l : Bytes). b ∷ l) c.1)))
    (λ e. ([], rw e refl))

-- four pieces of a text, one behind the other
four_pieces : (t d s b r u v c w : Bytes) → t ≡ d ++ s → s ≡ b ++ r → r ≡ u ++ v → v ≡ c ++ w → t ≡ (d ++ b ++ u ++ c) ++ w
four_pieces t d s b r u v c w e f g h =
    rw (e, f, g, h) (simp append_assoc)

-- the number, and the tokens from the unit on
number_at : (t d s : Bytes) → Run digit t d s → 0 < length d → tokens (runs t) ≡ d ∷ tokens (runs (trim_start s))
number_at t d s g h =
    let e : length (longest digit t) ≡ length d = ap length (sym g.front_is) in
    tokens-run digit digit_class digit-blank t (omega arith)
    ∙ rw (← g.front_is, ← g.back_is) (ap (λ (ws : List Bytes). d ∷ ws) (tokens-trim_start s))

module _ (t d s u v : Bytes) (number : Run digit t d s) (some_digit : 0 < length d) (name : Run letter (trim_start s) u v) where
  pub part_wrong : scale_in units u ≡ none → first_part (tokens (runs t)) ≡ none
  part_wrong e =
      ap first_part (number_at t d s number some_digit)
      ∙ no_unit d (trim_start s) (trim_start_idem s) (ap (scale_in units) (sym name.front_is) ∙ e)

  pub part_right : (a : CodeOption ℕ) (k : ℕ) → scale_in units u ≡ some k → Stands a (decimal d * k) → PartFound t a (trim_start v)
  part_right a k e stands =
      let unit : tokens (runs (trim_start s)) ≡ u ∷ tokens (runs (trim_start v)) =
      rw (← name.front_is, ← name.back_is) at (unit_at (trim_start s) k (ap (scale_in units) (sym name.front_is) ∙ e))
      in
      let view : tokens (runs t) ≡ d ∷ u ∷ tokens (runs (trim_start v)) =
      number_at t d s number some_digit ∙ ap (λ (ts : List Bytes). d ∷ ts) unit
      in
      let before = blanks_first s in
      let behind = blanks_first v in
      record {
        taken = d ++ before.0 ++ u ++ behind.0;
        whole = four_pieces t d s before.0 (trim_start s) u v behind.0 (trim_start v) number.whole before.1 name.whole behind.1;
        first = record { number = decimal d; scale = k };
        made = ap first_part view ∙ right_part d u k (some_numeral d some_digit number.pass) e;
        others = ap (drop 2) view;
        adds = stands;
        shorter = omega (arith, length-trim_start s, length-trim_start v, ap length number.whole, ap length name.whole, length-append d s, length-append u v);
        no_blank = trim_start_idem v;
      }
