-- A reading step, by what stands behind the blanks.
use mathlib.Core.Path.{◌≡◌, refl, sym, ap, subst, ◌∙◌}
use Prim.Native.Nat.{ℕ, zero, suc, ◌+◌, ◌-◌, ◌≤◌, ◌<◌}
use native.Mathlib.Omega.{arith}
use mathlib.Core.Bool.{true, false}
use lib.ListN.{length, take, drop, get_or, length-drop}
use native.Mathlib.Nat.{add-zero}
use Rattle.std.proofs.lemmas.List.{get_or-drop}
use Rattle.lines.specs.Bytes.{Bytes, blank}
use Rattle.lines.proofs.Bools.{by_cases}
use Rattle.lines.proofs.Slices.{part_from}
use Rattle.items.specs.Pieces.{backslash, quote}
use Rattle.items.specs.Split.{end, refusal, item_at, past_blanks, begun, step}
use Rattle.items.specs.Split as split
use Rattle.items.specs.Steps.{pieces_at, rest_of, BlanksFirst, StepTaken}
use Rattle.items.specs.declared.pieces.Mode.TheVariants.{Bare, Quoted}
use Rattle.items.specs.declared.splitter.Step as code
use Rattle.items.proofs.PieceSteps.{at_end, at_plain, not_backslash, some_escape, nonblank, blank_passed}

-- blanks are passed
passed : (t : Bytes) (at n : ℕ) → at + n ≤ length t → ((k : ℕ) → k < n → blank (get_or t (at + k) 0) ≡ true)
    → past_blanks (pieces_at t at) ≡ past_blanks (pieces_at t (at + n))
passed t at zero h p = rw add-zero
passed t at (suc n) h p =
    let e : at + n + 1 ≡ at + suc n = omega arith in
    passed t at n (omega arith) (λ k j. p k (omega arith))
    ∙ blank_passed t (at + n) (omega arith) (p n (omega arith)) ∙ ap (λ (k : ℕ). past_blanks (pieces_at t k)) e

-- the blanks that a text begins with from an offset on
module _ (t : Bytes) (n start m : ℕ) (from : start ≤ length t) (lent : BlanksFirst (take (length t - start) (drop start t)) m) where
  b : BlanksFirst (drop start t) m
  b = rw (part_from start t) at lent

  same : past_blanks (pieces_at t start) ≡ past_blanks (pieces_at t (start + m))
  same = passed t start m (omega (arith, b.within, length-drop start t)) (λ k j. rw get_or-drop at (b.before k j))

  behind : start + m < length t → blank (get_or t (start + m) 0) ≡ false
  behind j = rw get_or-drop at (b.behind (omega (arith, length-drop start t)))

  pub step_end : length t ≤ start + m → step n (pieces_at t start) ≡ end
  unfolding step begun past_blanks
  step_end h = rw (same, at_end t (start + m) h)

  module _ (h : start + m < length t) where
    -- what stands there is no blank
    stands : past_blanks (pieces_at t (start + m)) ≡ pieces_at t (start + m)
    unfolding past_blanks
    stands = let p = nonblank t (start + m) h (behind h) in rw (p.pieces_are, p.no_blank)

    here : step n (pieces_at t start) ≡ begun n (pieces_at t (start + m))
    unfolding step
    here = rw (same, stands)

    pub step_many : n ≡ 0 → step n (pieces_at t start) ≡ refusal 26 (start + m)
    unfolding begun
    step_many z = let p = nonblank t (start + m) h (behind h) in here ∙ rw (z, p.pieces_are, p.offset_is)

    module _ (z : n ≡ 0 → ⊥) where
      some : n ≡ suc (n - 1)
      some = omega (arith, z)

      pub step_quoted : quote (get_or t (start + m) 0) ≡ true → step n (pieces_at t start) ≡ rest_of (Quoted (get_or t (start + m) 0) (start + m)) (pieces_at t (start + m + 1))
      unfolding begun item_at rest_of
      step_quoted q =
          here ∙ rw (some, at_plain t (start + m) h (not_backslash quote (get_or t (start + m) 0) refl q), q)

      pub step_bare : quote (get_or t (start + m) 0) ≡ false → step n (pieces_at t start) ≡ rest_of Bare (pieces_at t (start + m))
      unfolding begun item_at rest_of
      step_bare q =
          here ∙ rw some
          (by_cases (backslash (get_or t (start + m) 0))
          (λ y. rw (some_escape t (start + m) h y).1)
          (λ f. rw (at_plain t (start + m) h f, q)))

-- the promise of a step, where what it reads is known
pub same_step : (t : Bytes) (s s' : split.Step) (n : ℕ) (before after : Bytes) (r : code.Step) → s ≡ s'
    → StepTaken t s' n before after r → StepTaken t s n before after r
same_step t s s' n before after r e h = subst (λ (x : split.Step). StepTaken t x n before after r) (sym e) h

-- a step that is known
pub step_known : (t : Bytes) (s : split.Step) (n : ℕ) (before after : Bytes) (r r' : code.Step) → r ≡ r'
    → StepTaken t s n before after r → StepTaken t s n before after r'
step_known t s n before after r r' e h = subst (StepTaken t s n before after) e h
