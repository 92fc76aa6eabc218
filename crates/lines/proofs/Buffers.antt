-- Laws of `filled` and `put`: lengths, and what one more part gives. Each cuts the buffer where the part begins and ends.
use mathlib.Core.Path.{◌≡◌, refl, sym, ap, ◌∙◌}
use Prim.Native.Nat.{ℕ, suc, ◌+◌, ◌-◌, ◌≤◌, ◌<◌}
use native.Mathlib.Nat.{add-zero, zero-add}
use native.Mathlib.Omega.{arith}
use mathlib.Core.Bool.{cond}
use mathlib.Core.List.{List, [], ◌∷◌, ◌++◌, append_assoc, append-nil}
use lib.ListN.{length, take, drop, set, length-append, length-drop, take-append-drop}
use lib.Dec.{leb}
use borrow.Author.Tests.{le-leb}
use lib.Seq.{take_at, drop_at, set_at, drop-cons, drop-drop, drop-append-add, length-take-le}
use Rattle.lines.specs.Buffers.{filled, put}

module _ {A : Type 0} where
  -- ---- lengths

  pub length-filled : (xs d : List A) → length xs ≤ length d → length (filled xs d) ≡ length d
  length-filled xs d h = simp (length-append, length-drop) (omega arith)

  pub length-put : (d : List A) (n : ℕ) (xs : List A) → n + length xs ≤ length d → length (put d n xs) ≡ length d
  length-put d n xs h = simp (length-append, length-drop) (omega (arith, length-take-le n d (omega arith)))

  -- ---- nothing put

  pub filled_nil : (d : List A) → filled [] d ≡ d
  filled_nil d = refl

  pub put_nil : (d : List A) (n : ℕ) → put d n [] ≡ d
  put_nil d n = simp (append-nil, add-zero, take-append-drop)

  -- ---- what was filled, and what was not

  pub take-filled : (xs d : List A) → take (length xs) (filled xs d) ≡ xs
  take-filled xs d = take_at xs (drop (length xs) d) (length xs) refl

  pub drop-filled : (xs d : List A) → drop (length xs) (filled xs d) ≡ drop (length xs) d
  drop-filled xs d = drop_at xs (drop (length xs) d) (length xs) refl

  -- what is filled over is gone
  pub filled_over : (xs ys d : List A) → length ys ≤ length xs → filled xs (filled ys d) ≡ filled xs d
  filled_over xs ys d h = ap (λ (l : List A). xs ++ l) (go (length xs) (length xs - length ys) (omega arith))
    where
      go : (n k : ℕ) → n ≡ length ys + k → drop n (filled ys d) ≡ drop n d
      go n k e = rw (e, drop-append-add ys (drop (length ys) d) k, drop-drop k (length ys) d)

  -- ---- one part more

  -- a part at the end of what is filled
  pub filled_put : (xs p d : List A) → put (filled xs d) (length xs) p ≡ filled (xs ++ p) d
  filled_put xs p d =
      rw (take-filled xs d, drop-append-add xs (drop (length xs) d) (length p), drop-drop (length p) (length xs) d, length-append xs p)

  filled_last : (xs d : List A) (a : A) → filled (xs ++ a ∷ []) d ≡ xs ++ a ∷ drop (suc (length xs)) d
  filled_last xs d a =
      let e : length xs + 1 ≡ suc (length xs) = omega arith in
      rw (length-append xs (a ∷ []), e, append_assoc)

  put_last : (d : List A) (n : ℕ) (p : List A) (a : A) → put d n (p ++ a ∷ []) ≡ (take n d ++ p) ++ a ∷ drop (n + suc (length p)) d
  put_last d n p a =
      let e : length p + 1 ≡ suc (length p) = omega arith in
      rw (length-append p (a ∷ []), e) (simp append_assoc)

  -- an element at the end of what is filled
  pub filled_snoc : (xs d : List A) (a : A) → length xs < length d → set (filled xs d) (length xs) a ≡ filled (xs ++ a ∷ []) d
  filled_snoc xs d a h =
      rw (drop-cons d (length xs) a h) (set_at xs _ _ a (length xs) refl ∙ sym (filled_last xs d a))

  -- the last element of a part that was put
  pub set-put : (d : List A) (n : ℕ) (p : List A) (b a : A) → n ≤ length d
      → set (put d n (p ++ b ∷ [])) (n + length p) a ≡ put d n (p ++ a ∷ [])
  set-put d n p b a h =
      let e : length (take n d ++ p) ≡ n + length p = length-append (take n d) p ∙ rw (length-take-le n d h) in
      rw (put_last d n p b) (set_at (take n d ++ p) _ _ a (n + length p) e ∙ sym (put_last d n p a))

  -- a part behind a part that was put
  put_front : (d : List A) (n : ℕ) (p : List A) → n ≤ length d → put d n p ≡ filled (take n d ++ p) d
  put_front d n p h = rw (length-append (take n d) p, length-take-le n d h)

  pub put-put : (d : List A) (n : ℕ) (p q : List A) → n ≤ length d → put (put d n p) (n + length p) q ≡ put d n (p ++ q)
  put-put d n p q h =
      let e : n + length p ≡ length (take n d ++ p) = sym (length-append (take n d) p ∙ rw (length-take-le n d h)) in
      rw (put_front d n p h, e, filled_put (take n d ++ p) q d, append_assoc (take n d) p q) (sym (put_front d n (p ++ q) h))

  -- what `copy_into` leaves, where the part fits
  pub copied : (d d' p : List A) (at : ℕ) → at + length p ≤ length d
      → d' ≡ cond (leb (at + length p) (length d)) (put d at p) d → d' ≡ put d at p
  copied d d' p at h e = e ∙ rw (le-leb (at + length p) (length d) h)

  -- the front of a buffer that was filled, copied to the front of another
  pub front_copied : (xs d from to to' : List A) (n : ℕ) → from ≡ filled xs d → n ≡ length xs → n ≤ length to
      → to' ≡ cond (leb (0 + length (take (n - 0) from)) (length to)) (put to 0 (take (n - 0) from)) to → to' ≡ filled xs to
  front_copied xs d from to to' n f e h p =
      let k : n - 0 ≡ length xs = omega arith in
      p ∙ rw (f, k, take-filled xs d, le-leb (0 + length xs) (length to) (omega arith), zero-add)
