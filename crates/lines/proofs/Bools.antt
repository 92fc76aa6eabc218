-- Bool tests taken apart and put together; the laws of `all`, `any` and `equal`.
use mathlib.Core.Path.{◌≡◌, refl, sym, ap, ◌∙◌}
use Prim.Native.Nat.{ℕ}
use native.Mathlib.Omega.{arith}
use mathlib.Core.Bool.{Bool, true, false, not, ◌&&◌, ◌||◌, false≢true}
use mathlib.Core.List.{[], ◌∷◌, ◌++◌}
use lib.Dec.{eqb}
use borrow.Author.Tests.{eqb-true, eq-eqb}
use Rattle.lines.specs.Bytes.{Bytes, all, any, equal}

-- ---- case analysis

pub by_cases {ℓ} : {X : Type ℓ} (b : Bool) → (b ≡ true → X) → (b ≡ false → X) → X
by_cases true f g = f refl
by_cases false f g = g refl

pub or_cases {ℓ} : {X : Type ℓ} (a b : Bool) → (a || b) ≡ true → (a ≡ true → X) → (b ≡ true → X) → X
or_cases true b e f g = f refl
or_cases false b e f g = g e

pub impossible {ℓ} : {X : Type ℓ} → false ≡ true → X
impossible e = absurd (false≢true e)

-- two constructors are never equal
pub clash {ℓ} : {X : Type ℓ} → ◌≡◌ {A = ℕ} 0 1 → X
clash e = absurd (omega arith)

pub is_false : (b : Bool) → (b ≡ true → ⊥) → b ≡ false
is_false true f = absurd (f refl)
is_false false f = refl

-- ---- connectives

pub and_left : (a b : Bool) → (a && b) ≡ true → a ≡ true
and_left true b e = refl
and_left false b e = e

pub and_right : (a b : Bool) → (a && b) ≡ true → b ≡ true
and_right true b e = e
and_right false true e = refl
and_right false false e = e

pub both : (a b : Bool) → a ≡ true → b ≡ true → (a && b) ≡ true
both a b p q = rw (p, q)

-- one of two tests is true
pub or_left : (a b : Bool) → a ≡ true → (a || b) ≡ true
or_left a b h = rw h

pub or_right : (a b : Bool) → b ≡ true → (a || b) ≡ true
or_right true b h = refl
or_right false b h = h

pub and_assoc : (a b c : Bool) → ((a && b) && c) ≡ (a && (b && c))
and_assoc true b c = refl
and_assoc false b c = refl

pub and_true : (a : Bool) → (a && true) ≡ a
and_true true = refl
and_true false = refl

pub and_false : (a : Bool) → (a && false) ≡ false
and_false true = refl
and_false false = refl

pub not_true : (a : Bool) → not a ≡ true → a ≡ false
not_true true e = sym e
not_true false e = refl

-- a byte that passes differs from one that fails
pub neq_byte : (p : ℕ → Bool) (c b : ℕ) → p c ≡ false → p b ≡ true → eqb b c ≡ false
neq_byte p c b no-c yes-b = is_false (eqb b c) (λ e. impossible (sym no-c ∙ ap p (sym (eqb-true b c e)) ∙ yes-b))

-- ---- all

pub all_append : (p : ℕ → Bool) (a b : Bytes) → all p (a ++ b) ≡ (all p a && all p b)
unfolding all
all_append p [] b = refl
all_append p (x ∷ a) b = rw (all_append p a b) (sym (and_assoc (p x) (all p a) (all p b)))

pub all_imp : (p q : ℕ → Bool) → ((b : ℕ) → p b ≡ true → q b ≡ true) → (l : Bytes) → all p l ≡ true → all q l ≡ true
unfolding all
all_imp p q f [] h = refl
all_imp p q f (b ∷ bs) h = both (q b) (all q bs) (f b (and_left (p b) (all p bs) h)) (all_imp p q f bs (and_right (p b) (all p bs) h))

-- some byte passes exactly where not every byte fails
pub any-all : (p : ℕ → Bool) (l : Bytes) → any p l ≡ not (all (λ b. not (p b)) l)
unfolding any all
any-all p [] = refl
any-all p (b ∷ bs) = by_cases (p b) (λ e. rw e) (λ e. rw e (any-all p bs))

-- ---- equal

pub equal_eq : (a b : Bytes) → equal a b ≡ true → a ≡ b
unfolding equal
equal_eq [] [] e = refl
equal_eq [] (c ∷ cs) e = impossible e
equal_eq (b ∷ bs) [] e = impossible e
equal_eq (b ∷ bs) (c ∷ cs) e =
    rw (eqb-true b c (and_left (eqb b c) (equal bs cs) e), equal_eq bs cs (and_right (eqb b c) (equal bs cs) e))

pub equal_refl : (a : Bytes) → equal a a ≡ true
unfolding equal
equal_refl [] = refl
equal_refl (b ∷ bs) = both (eqb b b) (equal bs bs) (eq-eqb b b refl) (equal_refl bs)
