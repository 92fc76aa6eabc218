-- What one more physical line does to the logical lines: a comment nothing, a continued line waits for
-- what follows, any other is a logical line or completes the one that waits.
use mathlib.Core.Path.{◌≡◌, refl, sym, ap, ◌∙◌}
use Prim.Native.Nat.{ℕ, suc, ◌≤◌}
use native.Mathlib.Omega.{arith}
use mathlib.Core.Bool.{true, false, not}
use mathlib.Core.List.{List, [], ◌∷◌, ◌++◌, append_assoc, append-nil}
use lib.ListN.{length, length-append}
use Rattle.lines.specs.Laws.{bytes_of}
use Rattle.lines.specs.Bytes.{Bytes, is_lf}
use Rattle.lines.specs.Lines.{Line, prepend, physical, comment, continued, spaced, join_next, joined}
use Rattle.lines.specs.LineSteps.{piece, ends, first_bytes}
use Rattle.lines.proofs.Bools.{by_cases, impossible, clash}
use Rattle.lines.proofs.Runs.{spaced-length}
use Rattle.lines.proofs.Physicals.{open_line}

-- the logical lines `ls`, where the bytes `a`, of the line that began at line m, wait for their continuation
unfoldable pub waiting : ℕ → Bytes → List Line → List Line
waiting m a [] = open_line m a ∷ []
waiting m a (k ∷ ks) = record { number = m; bytes = a ++ k.bytes; end = k.end } ∷ ks

pub joined_nil : joined [] ≡ []
unfolding joined
joined_nil = refl

module _ (l : Line) (ls : List Line) where
  pub joined-comment : comment l.bytes ≡ true → joined (l ∷ ls) ≡ joined ls
  unfolding joined
  joined-comment e = rw e

  pub joined_line : comment l.bytes ≡ false → continued l.bytes ≡ false → joined (l ∷ ls) ≡ l ∷ joined ls
  unfolding joined
  joined_line e k = rw (e, k)

  pub joined-continued : comment l.bytes ≡ false → continued l.bytes ≡ true → joined (l ∷ ls) ≡ join_next l (joined ls)
  unfolding joined
  joined-continued e k = rw (e, k)

  pub joined_open : comment l.bytes ≡ false → continued l.bytes ≡ true
      → joined (l ∷ ls) ≡ waiting l.number (spaced l.bytes) (joined ls)
  unfolding joined join_next waiting
  joined_open e k = rw (e, k) (go (joined ls))
    where
      go : (r : List Line) → join_next l r ≡ waiting l.number (spaced l.bytes) r
      go [] = refl
      go (k ∷ r) = refl

  module _ (m : ℕ) (a : Bytes) where
    pub waiting_comment : comment l.bytes ≡ true → waiting m a (joined (l ∷ ls)) ≡ waiting m a (joined ls)
    waiting_comment e = rw (joined-comment e)

    pub waiting_line : comment l.bytes ≡ false → continued l.bytes ≡ false
        → waiting m a (joined (l ∷ ls)) ≡ record { number = m; bytes = a ++ l.bytes; end = l.end } ∷ joined ls
    unfolding waiting
    waiting_line e k = rw (joined_line e k)

    pub waiting_open : comment l.bytes ≡ false → continued l.bytes ≡ true
        → waiting m a (joined (l ∷ ls)) ≡ waiting m (a ++ spaced l.bytes) (joined ls)
    unfolding waiting
    waiting_open e k = rw (joined_open e k) (go (joined ls))
      where
        go : (r : List Line) → waiting m a (waiting l.number (spaced l.bytes) r) ≡ waiting m (a ++ spaced l.bytes) r
        go [] = refl
        go (k ∷ r) = ap (λ (b : Bytes). record { number = m; bytes = b; end = k.end } ∷ r) (sym (append_assoc a (spaced l.bytes) k.bytes))

-- ---- a physical line as a piece of the logical line

module _ (l : Bytes) where
  pub piece-comment : comment l ≡ true → (piece l ≡ []) × (ends l ≡ false)
  unfolding piece ends
  piece-comment e = (rw e, rw e)

  pub piece_open : comment l ≡ false → continued l ≡ true → (piece l ≡ spaced l) × (ends l ≡ false)
  unfolding piece ends
  piece_open e k = (rw (e, k), rw (e, k))

  pub piece_line : comment l ≡ false → continued l ≡ false → (piece l ≡ l) × (ends l ≡ true)
  unfolding piece ends
  piece_line e k = (rw (e, k), rw (e, k))

  pub ends_line : comment l ≡ false → ends l ≡ not (continued l)
  unfolding ends
  ends_line e = rw e

  pub piece-length : comment l ≡ false → length (piece l) ≡ length l
  piece-length e =
      by_cases (continued l) (λ k. ap length (piece_open e k).0 ∙ spaced-length l) (λ k. ap length (piece_line e k).0)

-- one turn of a loop over the physical lines
module _ (m : ℕ) (a : Bytes) (l : Line) (ls : List Line) where
  pub waiting_ends : ends l.bytes ≡ true
      → waiting m a (joined (l ∷ ls)) ≡ record { number = m; bytes = a ++ piece l.bytes; end = l.end } ∷ joined ls
  waiting_ends h =
      by_cases (comment l.bytes) (λ e. impossible (sym (piece-comment l.bytes e).1 ∙ h))
      (λ e. by_cases (continued l.bytes) (λ k. impossible (sym (piece_open l.bytes e k).1 ∙ h))
      (λ k. waiting_line l ls m a e k ∙ rw (piece_line l.bytes e k).0))

  pub waiting_more : ends l.bytes ≡ false → waiting m a (joined (l ∷ ls)) ≡ waiting m (a ++ piece l.bytes) (joined ls)
  waiting_more h =
      by_cases (comment l.bytes) (λ e. waiting_comment l ls m a e ∙ rw ((piece-comment l.bytes e).0, append-nil))
      (λ e. by_cases (continued l.bytes) (λ k. waiting_open l ls m a e k ∙ rw (piece_open l.bytes e k).0)
      (λ k. impossible (sym h ∙ (piece_line l.bytes e k).1)))

-- a line that is no comment begins a logical line with its own number
pub waiting_start : (l : Line) (ls : List Line) → comment l.bytes ≡ false → waiting l.number [] (joined (l ∷ ls)) ≡ joined (l ∷ ls)
unfolding waiting
waiting_start l ls e =
    by_cases (continued l.bytes) (λ k. rw (joined_open l ls e k) (go (joined ls))) (λ k. rw (joined_line l ls e k))
  where
    go : (r : List Line) → waiting l.number [] (waiting l.number (spaced l.bytes) r) ≡ waiting l.number (spaced l.bytes) r
    go [] = refl
    go (k ∷ r) = refl

-- what waits is the start of the line that comes
pub waiting_first : (m : ℕ) (a : Bytes) (ls : List Line) → length a ≤ length (first_bytes (waiting m a ls))
unfolding waiting
waiting_first m a [] = omega arith
waiting_first m a (k ∷ ks) = omega (arith, length-append a k.bytes)

-- ---- lists of lines

-- a comment may stand anywhere among the lines
pub joined_without : (a : List Line) (c : Line) (b : List Line) → comment c.bytes ≡ true → joined (a ++ c ∷ b) ≡ joined (a ++ b)
unfolding joined
joined_without [] c b h = rw h
joined_without (l ∷ a) c b h = rw (joined_without a c b h)

-- numbers and offsets decide nothing: the bytes of the logical lines come from those of the physical ones
pub joined_same : (ls ks : List Line) → bytes_of ls ≡ bytes_of ks → bytes_of (joined ls) ≡ bytes_of (joined ks)
unfolding joined
joined_same [] [] e = refl
joined_same [] (k ∷ ks) e = clash (cc)
joined_same (l ∷ ls) [] e = clash (cc)
joined_same (l ∷ ls) (k ∷ ks) e = go (cc) (joined_same ls ks (cc))
  where
    join_next_same : l.bytes ≡ k.bytes → (r q : List Line) → bytes_of r ≡ bytes_of q → bytes_of (join_next l r) ≡ bytes_of (join_next k q)
    join_next_same b [] [] i = unfold join_next in (rw b)
    join_next_same b [] (x ∷ q) i = clash (cc)
    join_next_same b (x ∷ r) [] i = clash (cc)
    join_next_same b (x ∷ r) (z ∷ q) i =
        let h : x.bytes ≡ z.bytes = cc in
        let t : bytes_of r ≡ bytes_of q = cc in
        unfold join_next in (rw (b, h, t))

    go : l.bytes ≡ k.bytes → bytes_of (joined ls) ≡ bytes_of (joined ks) → bytes_of (joined (l ∷ ls)) ≡ bytes_of (joined (k ∷ ks))
    go b i =
        by_cases (comment k.bytes) (λ c. rw (ap comment b ∙ c, c) i)
        (λ c. by_cases (continued k.bytes)
        (λ o. rw (ap comment b ∙ c, c, ap continued b ∙ o, o) (join_next_same b (joined ls) (joined ks) i))
        (λ o. rw (ap comment b ∙ c, c, ap continued b ∙ o, o, b, i)))

-- physical lines of the same bytes
prepend_same : (n m c : ℕ) (ls ks : List Line) → bytes_of ls ≡ bytes_of ks → bytes_of (prepend n c ls) ≡ bytes_of (prepend m c ks)
unfolding prepend
prepend_same n m c [] [] e = refl
prepend_same n m c [] (k ∷ ks) e = clash (cc)
prepend_same n m c (l ∷ ls) [] e = clash (cc)
prepend_same n m c (l ∷ ls) (k ∷ ks) e =
    let h : l.bytes ≡ k.bytes = cc in
    let t : bytes_of ls ≡ bytes_of ks = cc in
    rw (h, t)

pub physical_same : (f : Bytes) (n a m b : ℕ) → bytes_of (physical n a f) ≡ bytes_of (physical m b f)
unfolding physical
physical_same [] n a m b = refl
physical_same (c ∷ f) n a m b =
    by_cases (is_lf c)
    (λ e. rw e (ap (λ (r : List Bytes). [] ∷ r) (physical_same f (suc n) (suc a) (suc m) (suc b))))
    (λ e. rw e (prepend_same n m c (physical n (suc a) f) (physical m (suc b) f) (physical_same f n (suc a) m (suc b))))

pub numbers_apart : (f : Bytes) (n a m b : ℕ) → bytes_of (joined (physical n a f)) ≡ bytes_of (joined (physical m b f))
numbers_apart f n a m b = joined_same (physical n a f) (physical m b f) (physical_same f n a m b)
