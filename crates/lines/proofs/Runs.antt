-- The closing run of backslashes: a byte that is none starts it afresh, and a line of backslashes is
-- all run.
use mathlib.Core.Path.{◌≡◌, refl, sym, ap, ◌∙◌}
use Prim.Native.Nat.{ℕ, suc, ◌+◌, ◌-◌, ◌≤◌}
use native.Mathlib.Omega.{arith}
use native.Mathlib.Numerals.{add-one}
use mathlib.Core.Bool.{true, false, not, ◌&&◌}
use mathlib.Core.List.{[], ◌∷◌, ◌++◌}
use lib.ListN.{length, get_or, take, drop, length-drop, length-append}
use lib.Seq.{split_at, drop-cons, drop-length}
use borrow.Author.Tests.{eqb-true}
use Rattle.lines.specs.Bytes.{Bytes, all}
use Rattle.lines.specs.Lines.{backslash, closing_run, odd, continued, spaced}
use Rattle.lines.proofs.Bools.{by_cases, impossible, and_left, and_right, and_false, and_true, all_append}

pub closing_all : (l : Bytes) → all backslash l ≡ true → closing_run l ≡ length l
unfolding closing_run
closing_all [] h = refl
closing_all (b ∷ bs) h = rw h

pub closing_after : (a : Bytes) (c : ℕ) (b : Bytes) → backslash c ≡ false → closing_run (a ++ c ∷ b) ≡ closing_run b
unfolding closing_run all
closing_after [] c b h = rw h
closing_after (x ∷ a) c b h =
    let no : all backslash (a ++ c ∷ b) ≡ false = all_append backslash a (c ∷ b) ∙ rw (h, and_false) in
    rw (no, and_false) (closing_after a c b h)

pub continued-after : (a : Bytes) (c : ℕ) (b : Bytes) → backslash c ≡ false → continued (a ++ c ∷ b) ≡ continued b
unfolding continued
continued-after a c b h = ap odd (closing_after a c b h)

-- ---- a continued line ends in a backslash, which becomes a space

pub record Spaced (l : Bytes) : Type 0 where
  pub front : Bytes
  pub was : l ≡ front ++ 0x5C ∷ []
  pub now_is : spaced l ≡ front ++ 0x20 ∷ []

spaced-all : (b : ℕ) (bs : Bytes) → all backslash (b ∷ bs) ≡ true → Spaced (b ∷ bs)
unfolding all spaced
spaced-all b [] h =
    record { front = []; was = ap (λ (x : ℕ). x ∷ []) (eqb-true b 0x5C (and_left (backslash b) true h)); now_is = refl }
spaced-all b (c ∷ cs) h =
    let r : Spaced (c ∷ cs) = spaced-all c cs (and_right (backslash b) (all backslash (c ∷ cs)) h) in
    record { front = b ∷ r.front; was = ap (λ (l : Bytes). b ∷ l) r.was; now_is = ap (λ (l : Bytes). b ∷ l) r.now_is }

spaced-run : (b : ℕ) (bs : Bytes) → odd (closing_run (b ∷ bs)) ≡ true → Spaced (b ∷ bs)
unfolding closing_run all odd spaced
spaced-run b [] h = by_cases (all backslash (b ∷ [])) (λ e. spaced-all b [] e) (λ e. impossible (rw e at h))
spaced-run b (c ∷ cs) h =
    by_cases (all backslash (b ∷ c ∷ cs)) (λ e. spaced-all b (c ∷ cs) e)
    (λ e. more (spaced-run c cs (rw e at h)))
  where
    more : Spaced (c ∷ cs) → Spaced (b ∷ c ∷ cs)
    more r = record { front = b ∷ r.front; was = ap (λ (l : Bytes). b ∷ l) r.was; now_is = ap (λ (l : Bytes). b ∷ l) r.now_is }

pub is_spaced : (l : Bytes) → continued l ≡ true → Spaced l
unfolding continued closing_run odd
is_spaced [] h = impossible h
is_spaced (b ∷ bs) h = spaced-run b bs h

pub spaced-length : (l : Bytes) → length (spaced l) ≡ length l
unfolding spaced
spaced-length [] = refl
spaced-length (b ∷ []) = refl
spaced-length (b ∷ c ∷ cs) = ap suc (spaced-length (c ∷ cs))

-- ---- counted from the end

-- the bytes from n on are all backslashes, and the byte before them is none
pub run_stops : (l : Bytes) (j n : ℕ) → j + 1 ≡ n → n ≤ length l → backslash (get_or l j 0) ≡ false → all backslash (drop n l) ≡ true
    → closing_run l ≡ length l - n
run_stops l j n e h other run =
    let c : ℕ = get_or l j 0 in
    let d : drop (suc j) l ≡ drop n l = ap (λ (k : ℕ). drop k l) (sym (add-one j) ∙ e) in
    ap closing_run (split_at l j 0 (omega arith)) ∙ closing_after (take j l) c (drop (suc j) l) other
    ∙ ap closing_run d ∙ closing_all (drop n l) run ∙ length-drop n l

-- one backslash more
pub run_more : (l : Bytes) (j n : ℕ) → j + 1 ≡ n → n ≤ length l → backslash (get_or l j 0) ≡ true → all backslash (drop n l) ≡ true
    → (all backslash (drop j l) ≡ true) × (odd (length l - j) ≡ not (odd (length l - n)))
unfolding all odd
run_more l j n e h slash run =
    let d : drop (suc j) l ≡ drop n l = ap (λ (k : ℕ). drop k l) (sym (add-one j) ∙ e) in
    let m : length l - j ≡ suc (length l - n) = omega arith in
    (ap (all backslash) (drop-cons l j 0 (omega arith)) ∙ rw (slash, d) run, rw m)

pub run_none : (l : Bytes) → (all backslash (drop (length l) l) ≡ true) × (odd (length l - length l) ≡ false)
unfolding all odd
run_none l = let z : length l - length l ≡ 0 = omega arith in (rw (drop-length l), rw z)

-- ---- a byte more at the end

pub closing_more : (l : Bytes) (b : ℕ) → backslash b ≡ true → closing_run (l ++ b ∷ []) ≡ suc (closing_run l)
unfolding closing_run all
closing_more [] b h = rw h
closing_more (x ∷ l) b h =
    let e : all backslash (l ++ b ∷ []) ≡ all backslash l = all_append backslash l (b ∷ []) ∙ rw h (and_true (all backslash l)) in
    by_cases (backslash x && all backslash l)
    (λ y. rw (e, y) (length_snoc l b))
    (λ y. rw (e, y) (closing_more l b h))
  where
    length_snoc : (l : Bytes) (b : ℕ) → suc (length (l ++ b ∷ [])) ≡ suc (suc (length l))
    length_snoc l b = omega (arith, length-append l (b ∷ []))

pub closing_stops : (l : Bytes) (b : ℕ) → backslash b ≡ false → closing_run (l ++ b ∷ []) ≡ 0
unfolding closing_run
closing_stops l b h = closing_after l b [] h

pub closing_none : (l : Bytes) → length l ≡ 0 → closing_run l ≡ 0
unfolding closing_run
closing_none [] h = refl
closing_none (b ∷ bs) h = absurd (omega arith)
