-- What `all` and `find` over the indexes below a number say of the numbers: `(0..n).all(..)` and `(0..n).rev().find(..)`.
use mathlib.Core.Path.{◌≡◌, refl, sym, ap, subst, ◌∙◌}
use Prim.Native.Nat.{ℕ, ◌+◌, ◌-◌, ◌≤◌, ◌<◌}
use native.Mathlib.Omega.{arith}
use mathlib.Core.Bool.{Bool, true, false, true≢false}
use lib.Dec.{leb}
use borrow.Author.Tests.{leb-true, leb-false}
use mathlib.Core.List.{List, [], ◌∷◌}
use denote.Ref.{Bor}
use denote.Param.Members.{Mut}
use Rattle.std.proofs.Common.{below_more}
use Rattle.std.specs.Prelude.{Option, None, Some, MatchOption, ⊤}
use Rattle.std.specs.declared.ops.Range.{Range}
use Rattle.std.specs.declared.iter.Rev.{Rev}
use Rattle.std.specs.Iterator.{Yields, YieldsThen}
use Rattle.std.specs.Iterator.Adapters.{rev_steps, rev_source}
use Rattle.std.specs.List.{FoldsTo}
use Rattle.std.specs.Fn.{Called, CalledAt}
use Rattle.std.proofs.iter.Yields.{nat_range_steps}
use Rattle.lines.proofs.Bools.{by_cases}
use Rattle.lookup.specs.Steps.{IsLast}

-- ---- `all`

module _ {F : Type 0} {g : Mut F (ℕ × Unit {0}) Bool} (f : F) (test : ℕ → Bool) (r : Bool)
    (yes : (x : ℕ) (q : F) → Called g f (x, tt) true q → (q ≡ f) × (test x ≡ true)) (h : r ≡ true) where
  abbrev Ends : Option ℕ → F → Type 0
  Ends o j = MatchOption o (r ≡ true) (λ x. (r ≡ false) × ((q : F) × Called g j (x, tt) false q))

  done : (s t u : Range ℕ) (o : Option ℕ) (j : F) → s ≡ t → nat_range_steps t o u → Ends o j
      → (i : ℕ) → s.start ≤ i → i < s.end → test i ≡ true
  done s t u None j e d c i l m =
      let a : t.start ≡ s.start = sym (ap (λ (v : Range ℕ). v.start) e) in
      let b : t.end ≡ s.end = sym (ap (λ (v : Range ℕ). v.end) e) in
      absurd (omega (arith, d.1.0))
  done s t u (Some x) j e d c i l m = absurd (true≢false (sym h ∙ c.0))

  from_start : (xs : List ℕ) (s t u : Range ℕ) (o : Option ℕ) (j : F) → Yields nat_range_steps s xs t → nat_range_steps t o u
      → FoldsTo (λ p x q. Called g p (x, tt) true q) f xs j → Ends o j
      → (i : ℕ) → s.start ≤ i → i < s.end → test i ≡ true
  from_start [] s t u o j y d l c i m n = done s t u o j y d c i m n
  from_start (x ∷ xs) s t u o j y d l c i m n =
      let v : Range ℕ = y.0 in
      let k = yes x l.0 l.1 in
      by_cases (leb i s.start)
      (λ q. let e : x ≡ i = omega (arith, y.1.1.1, leb-true i s.start q) in subst (λ (a : ℕ). test a ≡ true) e k.1)
      (λ q. from_start xs v t u o j y.2 d (subst (λ (w : F). FoldsTo (λ p a q. Called g p (a, tt) true q) w xs j) k.0 l.2) c i
      (omega (arith, y.1.1.2, leb-false i s.start q)) (omega (arith, y.1.0)))

  pub each_from_all : (n : ℕ) (u : Range ℕ)
      → (xs : List ℕ) × (o : Option ℕ) × (j : F) × YieldsThen nat_range_steps (record { start = 0; end = n }) xs o u
      × FoldsTo (λ p x q. Called g p (x, tt) true q) f xs j × Ends o j
      → (i : ℕ) → i < n → test i ≡ true
  each_from_all n u d i l =
      from_start d.0 (record { start = 0; end = n }) d.3.0 u d.1 d.2 d.3.1 d.3.2 d.4 d.5 i (omega arith) l

-- ---- `find` from the back

-- a step from the back of a range
abbrev pub back : Range ℕ → Option ℕ → Range ℕ → Type 0
back s r t =
    (t.start ≡ s.start)
    × MatchOption r ((s.end - s.start ≡ 0) × (t.end ≡ s.end)) (λ x. (0 < s.end - s.start) × (x ≡ t.end) × (s.end ≡ t.end + 1))

module _ {F : Type 0} {g : Mut F (Bor ℕ × Unit {0}) Bool} (f : F) (test : ℕ → Bool)
    (yes : (x : ℕ) (q : F) → CalledAt g f x true q → test x ≡ true)
    (no : (x : ℕ) (q : F) → CalledAt g f x false q → (q ≡ f) × (test x ≡ false)) where
  -- the test of one more index at the back
  one_more : (n i : ℕ) (r : Option ℕ) → n ≡ i + 1 → test i ≡ false → IsLast i test r → IsLast n test r
  one_more n i None e z h = rw e (below_more (λ (j : ℕ). test j ≡ false) i h z)
  one_more n i (Some k) e z h =
      let m = below_more (λ (j : ℕ). k < j → test j ≡ false) i (λ j l o. h.2 j o l) (λ _. z) in
      (omega (arith, h.0), h.1, λ j l o. m j (omega arith) l)

  ends : (n : ℕ) (s t u : Range ℕ) (r : Option ℕ) (j : F) → s ≡ t → f ≡ j → s.start ≡ 0 → s.end ≡ n → back t r u
      → MatchOption r ⊤ (λ x. (h : F) × CalledAt g j x true h) → IsLast n test r
  ends n s t u None j e q z m d c =
      let a : t.start ≡ s.start = sym (ap (λ (v : Range ℕ). v.start) e) in
      let b : t.end ≡ s.end = sym (ap (λ (v : Range ℕ). v.end) e) in
      λ i l. absurd (omega (arith, d.1.0))
  ends n s t u (Some x) j e q z m d c =
      let a : t.start ≡ s.start = sym (ap (λ (v : Range ℕ). v.start) e) in
      let b : t.end ≡ s.end = sym (ap (λ (v : Range ℕ). v.end) e) in
      (omega (arith, d.1.1, d.1.2), yes x c.0 (subst (λ (w : F). CalledAt g w x true c.0) (sym q) c.1), λ i l o. absurd (omega (arith, d.1.1, d.1.2)))

  from : (xs : List ℕ) (n : ℕ) (s t u : Rev (Range ℕ)) (r : Option ℕ) (j : F) → (rev_source s).start ≡ 0 → (rev_source s).end ≡ n
      → Yields (rev_steps back) s xs t → rev_steps back t r u → FoldsTo (λ p x q. CalledAt g p x false q) f xs j
      → MatchOption r ⊤ (λ x. (h : F) × CalledAt g j x true h) → IsLast n test r
  from [] n s t u r j z m y d l c = ends n (rev_source s) (rev_source t) (rev_source u) r j (ap (λ (v : Rev (Range ℕ)). rev_source v) y) l z m d c
  from (x ∷ xs) n s t u r j z m y d l c =
      let v : Rev (Range ℕ) = y.0 in
      let k = no x l.0 l.1 in
      let e : (rev_source v).start ≡ 0 = omega (arith, y.1.0) in
      let i = from xs (rev_source v).end v t u r j e refl y.2 d (subst (λ (w : F). FoldsTo (λ p a q. CalledAt g p a false q) w xs j) k.0 l.2) c in
      one_more n (rev_source v).end r (omega (arith, y.1.1.2)) (subst (λ (a : ℕ). test a ≡ false) y.1.1.1 k.1) i

  pub last_from_back : (n : ℕ) (s u : Rev (Range ℕ)) (r : Option ℕ) → rev_source s ≡ record { start = 0; end = n }
      → (xs : List ℕ) × (j : F) × YieldsThen (rev_steps back) s xs r u × FoldsTo (λ p x q. CalledAt g p x false q) f xs j
      × MatchOption r ⊤ (λ x. (h : F) × CalledAt g j x true h)
      → IsLast n test r
  last_from_back n s u r e d =
      from d.0 n s d.2.0 u r d.1 (ap (λ (v : Range ℕ). v.start) e) (ap (λ (v : Range ℕ). v.end) e) d.2.1 d.2.2 d.3 d.4
