-- The answer for a span from what was found in its trimmed text: nothing, digits alone, or parts.
use mathlib.Core.Path.{◌≡◌, refl, sym, ap, ◌∙◌}
use Prim.Native.Nat.{ℕ, ◌*◌, ◌≤◌, ◌<◌}
use native.Mathlib.Omega.{arith}
use native.Mathlib.Nat.{add-zero}
use mathlib.Core.Bool.{true, false}
use mathlib.Core.Option.{Option, none, some}
use mathlib.Core.List.{List, [], ◌∷◌}
use lib.ListN.{length, length-append}
use borrow.Author.Tests.{le-leb, lt-leb}
use Rattle.lines.specs.Bytes.{Bytes, digit, all}
use Rattle.lines.specs.Trim.{trim_start, trimmed}
use Rattle.lines.specs.Answers.{refused}
use Rattle.lines.proofs.Bools.{is_false, clash}
use Rattle.lines.proofs.Trimming.{trimmed_start}
use Rattle.values.specs.Spans.{decimal, second, runs, tokens, Part, with_part, parts_of, one_or_more, span_parts, microseconds, sized, span_of, largest_span, limited}
use Rattle.values.specs.Answers.{span_means}
use Rattle.values.specs.Steps.{Stands, Totalled}
use Rattle.values.specs.declared.error.Error.TheVariants.{SpanTooLarge}
use Rattle.std.specs.Prelude.{Option as CodeOption, Some, None, MatchOption, ⊤}
use Rattle.std.specs.Option.{ok_or}
use Rattle.values.proofs.Longest.{Run, longest_whole, longest_of_all}
use Rattle.values.proofs.Runs.{some_token}

-- ---- the form of a trimmed text

parts_empty : (s : Bytes) → length s ≡ 0 → span_parts s ≡ none
unfolding span_parts
parts_empty [] h = refl
parts_empty (b ∷ bs) h = absurd (omega arith)

pub parts_digits : (s : Bytes) → 0 < length s → all digit s ≡ true
    → span_parts s ≡ some (record { number = decimal s; scale = second } ∷ [])
unfolding span_parts
parts_digits [] l h = absurd (omega arith)
parts_digits (b ∷ bs) l h = rw h

-- with a token
pub parts_units : (s : Bytes) → all digit s ≡ false → 0 < length (tokens (runs s)) → span_parts s ≡ parts_of (tokens (runs s))
unfolding span_parts
parts_units [] h l = absurd (omega arith)
parts_units (b ∷ bs) h l = rw h (one_or_more_lem (tokens (runs (b ∷ bs))) l)
  where
    one_or_more_lem : (ts : List Bytes) → 0 < length ts → one_or_more ts ≡ parts_of ts
    one_or_more_lem [] k = absurd (omega arith)
    one_or_more_lem (t ∷ ts) k = refl

-- a fault behind a part is a fault of the whole, however large the part is
pub fault_kept : (p : Part) → with_part (some p) none ≡ none
fault_kept p = refl

pub some_parts : (ts : List Bytes) (ps : List Part) → one_or_more ts ≡ some ps → parts_of ts ≡ some ps
unfolding one_or_more
some_parts [] ps h = clash (cc)
some_parts (t ∷ ts) ps h = h

-- ---- the answer

sized_some : (ps : List Part) → sized (some ps) ≡ limited (microseconds ps)
unfolding sized
sized_some ps = refl

sized_none : sized none ≡ refused 31 0
unfolding sized
sized_none = refl

one_part : (n s : ℕ) → microseconds (record { number = n; scale = s } ∷ []) ≡ n * s
unfolding microseconds
one_part n s = add-zero (n * s)

-- s is the trimmed text
span_of_at : (t s : Bytes) → s ≡ trimmed t → span_of t ≡ sized (span_parts s)
unfolding span_of
span_of_at t s e = ap (λ (l : Bytes). sized (span_parts l)) (sym e)

pub span_empty : (t s : Bytes) → s ≡ trimmed t → length s ≡ 0 → span_of t ≡ refused 31 0
span_empty t s e h = span_of_at t s e ∙ ap sized (parts_empty s h) ∙ sized_none

-- a trimmed text with a byte; the digits at its start, and what stands behind them
module _ (t s d r : Bytes) (trim : s ≡ trimmed t) (some_byte : 0 < length s) (run : Run digit s d r) where
  pub span_seconds : length r ≡ 0 → span_of t ≡ limited (decimal d * second)
  span_seconds h =
      let w : d ≡ s = run.front_is ∙ longest_whole digit s (omega (arith, ap length run.front_is, ap length run.whole, length-append d r)) in
      span_of_at t s trim
      ∙ ap sized (parts_digits s some_byte (ap (all digit) (sym w) ∙ run.pass))
      ∙ sized_some (record { number = decimal s; scale = second } ∷ [])
      ∙ ap limited (one_part (decimal s) second)
      ∙ ap (λ (l : Bytes). limited (decimal l * second)) (sym w)

  span_units : 0 < length r → span_of t ≡ sized (parts_of (tokens (runs s)))
  span_units h =
      let e : all digit s ≡ true → length d ≡ length s = λ y. ap length (run.front_is ∙ longest_of_all digit s y) in
      span_of_at t s trim
      ∙ ap sized (parts_units s (is_false (all digit s) (λ y. absurd (omega (arith, e y, ap length run.whole, length-append d r))))
      (some_token s some_byte (ap trim_start trim ∙ trimmed_start t ∙ sym trim)))

  pub span_total : (a : CodeOption ℕ) → 0 < length r → (p : Totalled (parts_of (tokens (runs s))) a) → span_of t ≡ limited (microseconds p.list)
  span_total a h p = span_units h ∙ ap sized p.all_parts ∙ sized_some p.list

  pub span_wrong : 0 < length r → parts_of (tokens (runs s)) ≡ none → span_of t ≡ refused 31 0
  span_wrong h p = span_units h ∙ ap sized p ∙ sized_none

-- the answer for an amount, once the form is right
pub judged : (a : CodeOption ℕ) (v : ℕ) → MatchOption a ⊤ (λ n. n ≤ largest_span) → Stands a v → span_means (ok_or a SpanTooLarge) ≡ limited v
judged (Some n) v f h = rw (← h, le-leb n largest_span f)
judged None v f h = rw (lt-leb v largest_span h)

-- ---- the answer by the form alone

pub span_some : (t : Bytes) (ps : List Part) → span_parts (trimmed t) ≡ some ps → span_of t ≡ limited (microseconds ps)
span_some t ps h = span_of_at t (trimmed t) refl ∙ ap sized h ∙ sized_some ps

pub span_none : (t : Bytes) → ((ps : List Part) → span_parts (trimmed t) ≡ some ps → ⊥) → span_of t ≡ refused 31 0
span_none t h = span_of_at t (trimmed t) refl ∙ go (span_parts (trimmed t)) refl
  where
    go : (o : Option (List Part)) → span_parts (trimmed t) ≡ o → sized (span_parts (trimmed t)) ≡ refused 31 0
    go none e = ap sized e ∙ sized_none
    go (some ps) e = absurd (h ps e)
