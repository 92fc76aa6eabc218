-- An accepted escape depends only on the bytes that it takes: these bytes give the same whatever follows them, and
-- wherever they stand. The forms with digits share one argument: a number depends only on the bytes that it reads.
use mathlib.Core.Path.{◌≡◌, refl, ◌∙◌}
use Prim.Native.Nat.{ℕ, suc, ◌+◌, ◌≤◌}
use Prim.Native.Char.{code}
use native.Mathlib.Omega.{arith}
use mathlib.Core.Bool.{Bool, ◌&&◌}
use Rattle.std.specs.Prelude.{Option, None, Some}
use mathlib.Core.List.{[], ◌∷◌, ◌++◌}
use lib.ListN.{length, take, length-append}
use lib.Seq.{length-take-le, take-append-add, take_at}
use lib.Dec.{eqb, leb}
use borrow.Author.Tests.{leb-true, le-leb}
use Rattle.lines.specs.Bytes.{Bytes, all}
use Rattle.lines.specs.Utf8.{encoded}
use Rattle.lines.specs.Answers.{Outcome, accepted, refused}
use Rattle.lines.proofs.Bools.{by_cases, and_left, clash}
use Rattle.items.specs.Escapes.{Escaped, letters, byte_of, digit_of, number, one_byte, code_point, numeric, digit_escape, letter_escape, escape}
use Rattle.items.specs.Grammar.{Gives}

-- ---- numbers

number_fits : (base n : ℕ) (t : Bytes) (v : ℕ) → number base n t ≡ Some v → n ≤ length t
unfolding number
number_fits base n t v h =
    by_cases (leb n (length t) && all (digit_of base) (take n t))
    (λ e. leb-true n (length t) (and_left (leb n (length t)) (all (digit_of base) (take n t)) e))
    (λ e. let z : None ≡ Some v = rw e at h in clash cc)

-- the bytes that are read, and others behind them
number_again : (base k : ℕ) (front t rest : Bytes) → k ≤ length t
    → number base (length front + k) (front ++ (take k t ++ rest)) ≡ number base (length front + k) (front ++ t)
unfolding number
number_again base k front t rest h =
    let l : length (take k t) ≡ k = length-take-le k t h in
    let fits : length front + k ≤ length (front ++ (take k t ++ rest)) =
    simp length-append (omega arith) in
    let fit : length front + k ≤ length (front ++ t) = simp length-append (omega arith) in
    rw (
      le-leb (length front + k) (length (front ++ (take k t ++ rest))) fits,
      le-leb (length front + k) (length (front ++ t)) fit,
      take-append-add front (take k t ++ rest) k,
      take-append-add front t k,
      take_at (take k t) rest k l,
    )

-- ---- escapes

-- what an accepted escape says of the bytes that it takes
abbrev Local : Bytes → Outcome Escaped → Type 0
Local u (accepted e) = (e.taken ≤ length u) × ((at : ℕ) (rest : Bytes) → escape at (take e.taken u ++ rest) ≡ accepted e)
Local u (refused n p) = Unit {0}

-- a form whose number is read from the k bytes behind the first one, or from the first one on
form_local : (allowed : ℕ → Bool) (give : ℕ → Bytes) (base k c : ℕ) (front : Bytes)
    → ((at : ℕ) (t : Bytes) → escape at (c ∷ t) ≡ numeric allowed give (suc k) at (number base (length front + k) (front ++ t)))
    → (at : ℕ) (t : Bytes) → Local (c ∷ t) (escape at (c ∷ t))
unfolding numeric
form_local allowed give base k c front form at t =
    rw (form at t) (go (number base (length front + k) (front ++ t)) refl)
  where
    go : (o : Option ℕ) → number base (length front + k) (front ++ t) ≡ o → Local (c ∷ t) (numeric allowed give (suc k) at o)
    go None e = tt
    go (Some v) e =
        let h : k ≤ length t = omega (arith, number_fits base (length front + k) (front ++ t) v e, length-append front t) in
        by_cases (allowed v)
        (λ y. rw y (omega arith, (λ at' rest. form at' (take k t ++ rest) ∙ rw (number_again base k front t rest h, e, y))))
        (λ y. rw y tt)

escape_local : (at : ℕ) (u : Bytes) → Local u (escape at u)
unfolding escape letter_escape digit_escape
escape_local at [] = tt
escape_local at (c ∷ t) = go (byte_of letters c) refl
  where
    go : (o : Option ℕ) → byte_of letters c ≡ o → Local (c ∷ t) (escape at (c ∷ t))
    go (Some b) e = rw e (omega arith, (λ at' rest. rw e))
    go None e =
        by_cases (eqb c (code "x"))
        (λ x. form_local one_byte (λ v. v ∷ []) 16 2 c [] (λ at t. rw (e, x)) at t)
        (λ x. by_cases (eqb c (code "u"))
        (λ y. form_local code_point encoded 16 4 c [] (λ at t. rw (e, x, y)) at t)
        (λ y. by_cases (eqb c (code "U"))
        (λ z. form_local code_point encoded 16 8 c [] (λ at t. rw (e, x, y, z)) at t)
        (λ z. form_local one_byte (λ v. v ∷ []) 8 2 c (c ∷ []) (λ at t. rw (e, x, y, z)) at t)))

-- an accepted escape takes bytes that there are, and these give its bytes
pub escape_gives : (at : ℕ) (u : Bytes) (e : Escaped) → escape at u ≡ accepted e
    → (e.taken ≤ length u) × Gives (take e.taken u) e.bytes
escape_gives at u e h =
    let l : Local u (accepted e) = rw h at (escape_local at u) in
    (l.0, (λ at rest. rw (length-take-le e.taken u l.0) (l.1 at rest)))
