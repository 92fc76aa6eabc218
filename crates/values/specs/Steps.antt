-- What the functions inside the crate promise: sums that may be too large, and the steps of reading a span.
-- The `None` here is no answer of the rules: 32 arises in `span`.
use Rattle.std.specs.Prelude.{◌≡◌, ℕ, ◌*◌, ◌<◌, Bool, true, false, List, [], ◌∷◌, ◌++◌, length, drop, slice_index, Some, None, Result, Ok, Err}
use Rattle.std.specs.Prelude.{Option as CodeOption}
use Rattle.std.proofs.Math.Option.{Option, none, some}
use Rattle.lines.specs.Bytes.{Bytes}
use Rattle.lines.specs.Trim.{trim_start}
use Rattle.values.specs.Spans.{Part, runs, tokens, part_of, microseconds, largest_span}
use Rattle.values.specs.declared.error.Error.{Error}
use Rattle.values.specs.declared.error.Error.TheVariants.{SpanForm}
use Rattle.values.specs.declared.spans.FirstPart.{FirstPart}

-- an amount stands for a number: for itself, or for any that is above the largest
abbrev pub Stands : CodeOption ℕ → ℕ → Type 0
Stands (Some n) v = n ≡ v
Stands None v = largest_span < v

-- A text is cut into two: the bytes of the first pass, and the first byte of the other, if it has one, does not.
pub record SplitsAt (passes : ℕ → Bool → Type 0) (t front back : Bytes) : Type 0 where
  pub whole : t ≡ front ++ back
  pub passed : (k : ℕ) → k < length front → passes (slice_index front k) true
  pub stopped : 0 < length back → passes (slice_index back 0) false

-- what a unit's name stands for
abbrev pub scale_means : CodeOption ℕ → Option ℕ
scale_means (Some n) = some n
scale_means None = none

-- the part that the first two tokens make; none where there are fewer
abbrev pub first_part : List Bytes → Option Part
first_part [] = none
first_part (n ∷ []) = none
first_part (n ∷ u ∷ ts) = part_of n u

-- The first part of a text takes the bytes at its start, the blanks behind it too, and adds an amount. What stands behind
-- them is shorter, has the other tokens, and starts with no blank.
pub record PartFound (t : Bytes) (a : CodeOption ℕ) (r : Bytes) : Type 0 where
  pub taken : Bytes
  pub whole : t ≡ taken ++ r
  pub first : Part
  pub made : first_part (tokens (runs t)) ≡ some first
  pub others : drop 2 (tokens (runs t)) ≡ tokens (runs r)
  pub adds : Stands a (first.number * first.scale)
  pub shorter : length r < length t
  pub no_blank : trim_start r ≡ r

-- the first part of a text, or no two tokens that make one
abbrev pub PartAt : Bytes → Result FirstPart Error → Type 0
PartAt t (Ok p) = PartFound t p.amount p.rest.now
PartAt t (Err e) = (e ≡ SpanForm) × (first_part (tokens (runs t)) ≡ none)

-- the amount stands for the sum of all parts
pub record Totalled (parts : Option (List Part)) (a : CodeOption ℕ) : Type 0 where
  pub list : List Part
  pub all_parts : parts ≡ some list
  pub total : Stands a (microseconds list)

-- the sum of the parts, or the form is wrong
abbrev pub SumOf : Option (List Part) → Result (CodeOption ℕ) Error → Type 0
SumOf o (Ok a) = Totalled o a
SumOf o (Err e) = (e ≡ SpanForm) × (o ≡ none)
