-- A reading step by the first byte of a text: a blank is passed, a quote opens an item, any other byte begins a bare
-- item, and where there is none the end is found.
use mathlib.Core.Path.{◌≡◌, refl}
use Prim.Native.Nat.{ℕ, suc}
use mathlib.Core.Bool.{true, false}
use mathlib.Core.List.{[], ◌∷◌}
use Rattle.lines.specs.Bytes.{Bytes, blank}
use Rattle.lines.proofs.Bools.{by_cases, neq_byte}
use Rattle.items.specs.Pieces.{backslash, quote, pieces_from}
use Rattle.items.specs.Split.{end, bare_item, quoted_item, item_at, past_blanks, begun, step}
use Rattle.items.proofs.PieceLaws.{pieces_nil, pieces-plain}

pub quote-blank : (q : ℕ) → quote q ≡ true → blank q ≡ false
quote-blank q h = rw (neq_byte quote 0x20 q refl h, neq_byte quote 0x09 q refl h)

pub step_end : (n at : ℕ) → step n (pieces_from 0 at []) ≡ end
unfolding step past_blanks begun
step_end n at = rw (pieces_nil at)

pub step-blank : (n at b : ℕ) (t : Bytes) → blank b ≡ true → step n (pieces_from 0 at (b ∷ t)) ≡ step n (pieces_from 0 (suc at) t)
unfolding step past_blanks
step-blank n at b t h = rw (pieces-plain at b t (neq_byte blank 0x5C b refl h), h)

pub step_quote : (n at q : ℕ) (t : Bytes) → quote q ≡ true
    → step (suc n) (pieces_from 0 at (q ∷ t)) ≡ quoted_item q at (pieces_from 0 (suc at) t)
unfolding step past_blanks begun item_at
step_quote n at q t h = rw (pieces-plain at q t (neq_byte quote 0x5C q refl h), quote-blank q h, h)

pub step_bare : (n at b : ℕ) (t : Bytes) → blank b ≡ false → quote b ≡ false
    → step (suc n) (pieces_from 0 at (b ∷ t)) ≡ bare_item (pieces_from 0 at (b ∷ t))
unfolding step past_blanks begun item_at pieces_from bare_item
step_bare n at b t h k = by_cases (backslash b) (λ y. rw y) (λ y. rw (y, h, k, h))
