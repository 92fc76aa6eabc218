-- Items read one after another. What the loop keeps: the items read so far stand in the buffers, and the items of
-- the text are these before those from the offset on.
use mathlib.Core.Path.{◌≡◌, refl, sym, ap, ◌∙◌}
use Prim.Native.Nat.{ℕ, zero, suc, ◌+◌, ◌-◌, ◌≤◌, ◌<◌}
use native.Mathlib.Nat.{add-zero}
use native.Mathlib.Omega.{arith}
use mathlib.Core.List.{List, [], ◌∷◌, ◌++◌, append_assoc, append-nil}
use lib.ListN.{length, set, length-append, length-set}
use Rattle.lines.specs.Bytes.{Bytes}
use Rattle.lines.specs.Answers.{Outcome, accepted, refused}
use Rattle.lines.specs.Buffers.{put, filled}
use Rattle.lines.proofs.Buffers.{filled_put, filled_snoc}
use Rattle.items.specs.Pieces.{Piece, pieces}
use Rattle.items.specs.Split.{item, end, refusal, begun, step, past_blanks, with_item, items_of, bytes_of, ends_from}
use Rattle.items.specs.Steps.{pieces_at, ItemRead, AllRead}

-- ---- the items of pieces, by a step

no_item : (ps : List Piece) (x : Bytes) (rest : List Piece) → step 0 ps ≡ item x rest → ⊥
unfolding step
no_item ps x rest h = go (past_blanks ps) h
  where
    go : (qs : List Piece) → begun 0 qs ≡ item x rest → ⊥
    go [] e = let z : ◌≡◌ {A = ℕ} 0 1 = (unfold begun in cc (e)) in omega arith
    go (q ∷ qs) e = let z : ◌≡◌ {A = ℕ} 0 1 = (unfold begun in cc (e)) in omega arith

pub items_item : (n : ℕ) (ps : List Piece) (x : Bytes) (rest : List Piece) → step n ps ≡ item x rest
    → (0 < n) × (items_of n ps ≡ with_item x (items_of (n - 1) rest))
unfolding items_of
items_item zero ps x rest h = absurd (no_item ps x rest h)
items_item (suc n) ps x rest h =
    let k : suc n - 1 ≡ n = omega arith in
    (omega arith, rw (h, k))

pub items_end : (n : ℕ) (ps : List Piece) → step n ps ≡ end → items_of n ps ≡ accepted []
unfolding items_of
items_end zero ps h = rw h
items_end (suc n) ps h = rw h

pub items_refused : (n : ℕ) (ps : List Piece) (k p : ℕ) → step n ps ≡ refusal k p → items_of n ps ≡ refused k p
unfolding items_of
items_refused zero ps k p h = rw h
items_refused (suc n) ps k p h = rw h

-- ---- items before others

unfoldable pub with_items : List Bytes → Outcome (List Bytes) → Outcome (List Bytes)
with_items xs (accepted ys) = accepted (xs ++ ys)
with_items xs (refused n p) = refused n p

with_none : (o : Outcome (List Bytes)) → o ≡ with_items [] o
unfolding with_items
with_none (accepted ys) = refl
with_none (refused n p) = refl

with_one : (xs : List Bytes) (x : Bytes) (o : Outcome (List Bytes)) → with_items xs (with_item x o) ≡ with_items (xs ++ x ∷ []) o
unfolding with_items
with_one xs x (accepted ys) = ap accepted (sym (append_assoc xs (x ∷ []) ys))
with_one xs x (refused n p) = refl

-- ---- one item more in the buffers

bytes_more : (xs : List Bytes) (x : Bytes) → bytes_of (xs ++ x ∷ []) ≡ bytes_of xs ++ x
unfolding bytes_of
bytes_more [] x = append-nil x
bytes_more (y ∷ ys) x = ap (λ (l : Bytes). y ++ l) (bytes_more ys x) ∙ sym (append_assoc y (bytes_of ys) x)

ends_more : (at : ℕ) (xs : List Bytes) (x : Bytes) → ends_from at (xs ++ x ∷ []) ≡ ends_from at xs ++ (at + length (bytes_of xs) + length x) ∷ []
unfolding bytes_of ends_from
ends_more at [] x = rw add-zero
ends_more at (y ∷ ys) x =
    let e : at + length y + length (bytes_of ys) + length x ≡ at + length (y ++ bytes_of ys) + length x = omega (arith, length-append y (bytes_of ys)) in
    ap (λ (l : List ℕ). (at + length y) ∷ l)
    (ends_more (at + length y) ys x ∙ ap (λ (m : ℕ). ends_from (at + length y) ys ++ m ∷ []) e)

pub ends-length : (at : ℕ) (xs : List Bytes) → length (ends_from at xs) ≡ length xs
unfolding ends_from
ends-length at [] = refl
ends-length at (x ∷ xs) = ap suc (ends-length (at + length x) xs)

-- ---- the loop

-- d and e are the buffers as they were
pub record Collecting (t d : Bytes) (e : List ℕ) (bytes : Bytes) (ends : List ℕ) (at size count : ℕ) : Type 0 where
  pub done : List Bytes
  pub so_far : items_of 256 (pieces t) ≡ with_items done (items_of (256 - count) (pieces_at t at))
  pub count_is : count ≡ length done
  pub size_is : size ≡ length (bytes_of done)
  pub bytes_are : bytes ≡ filled (bytes_of done) d
  pub ends_are : ends ≡ filled (ends_from 0 done) e
  pub fits : size ≤ at
  pub inside : at ≤ length t
  pub few : count ≤ 256
  pub same_bytes : length bytes ≡ length d
  pub same_ends : length ends ≡ length e

module _ (t d : Bytes) (e : List ℕ) where
  pub collecting_start : Collecting t d e d e 0 0 0
  unfolding pieces_at pieces bytes_of ends_from
  collecting_start =
      record {
        done = [];
        so_far = with_none (items_of 256 (pieces t));
        count_is = refl;
        size_is = refl;
        bytes_are = refl;
        ends_are = refl;
        fits = omega arith;
        inside = omega arith;
        few = omega arith;
        same_bytes = refl;
        same_ends = refl;
      }

  module _ (bytes : Bytes) (ends : List ℕ) (at size count : ℕ) (c : Collecting t d e bytes ends at size count) where
    pub collecting_end : length t ≤ 4096 → (bytes' : Bytes) → (step (256 - count) (pieces_at t at) ≡ end) × (bytes' ≡ bytes)
        → AllRead (items_of 256 (pieces t)) count size d bytes' e ends
    unfolding with_items
    collecting_end l bytes' h =
        record {
          items = c.done;
          outcome =
              c.so_far ∙ ap (with_items c.done) (items_end (256 - count) (pieces_at t at) h.0) ∙ ap accepted (append-nil c.done);
          count_is = c.count_is;
          size_is = c.size_is;
          bytes_are = h.1 ∙ c.bytes_are;
          ends_are = c.ends_are;
          few = c.few;
          fits = omega (arith, c.fits, c.inside);
        }

    pub collecting_refused : (k p : ℕ) → step (256 - count) (pieces_at t at) ≡ refusal k p → items_of 256 (pieces t) ≡ refused k p
    unfolding with_items
    collecting_refused k p h = c.so_far ∙ ap (with_items c.done) (items_refused (256 - count) (pieces_at t at) k p h)

    module _ (bytes' : Bytes) (next m : ℕ) (r : ItemRead t (step (256 - count) (pieces_at t at)) size bytes bytes' next m) where
      known : (0 < 256 - count) × (items_of (256 - count) (pieces_at t at) ≡ with_item r.bytes (items_of (256 - count - 1) (pieces_at t next)))
      known = items_item (256 - count) (pieces_at t at) r.bytes (pieces_at t next) r.step

      pub place_left : count < 256
      place_left = omega (arith, known.0)

      pub collecting_more : length e ≡ 256 → length bytes' ≡ length bytes → Collecting t d e bytes' (set ends count m) next m (count + 1)
      collecting_more l b =
          let n : 256 - count - 1 ≡ 256 - (count + 1) = omega arith in
          let k : count ≡ length (ends_from 0 c.done) = c.count_is ∙ sym (ends-length 0 c.done) in
          let f : m ≡ 0 + length (bytes_of c.done) + length r.bytes = omega (arith, r.size, c.size_is) in
          record {
            done = c.done ++ r.bytes ∷ [];
            so_far =
                c.so_far ∙ ap (with_items c.done) (known.1 ∙ ap (λ (i : ℕ). with_item r.bytes (items_of i (pieces_at t next))) n)
                ∙ with_one c.done r.bytes (items_of (256 - (count + 1)) (pieces_at t next));
            count_is = omega (arith, c.count_is, length-append c.done (r.bytes ∷ []));
            size_is = omega (arith, r.size, c.size_is, ap length (bytes_more c.done r.bytes), length-append (bytes_of c.done) r.bytes);
            bytes_are =
                r.buffer ∙ ap (λ (x : Bytes). put x size r.bytes) c.bytes_are
                ∙ ap (λ (i : ℕ). put (filled (bytes_of c.done) d) i r.bytes) c.size_is
                ∙ filled_put (bytes_of c.done) r.bytes d ∙ ap (λ (x : Bytes). filled x d) (sym (bytes_more c.done r.bytes));
            ends_are =
                ap (λ (x : List ℕ). set x count m) c.ends_are
                ∙ ap (λ (i : ℕ). set (filled (ends_from 0 c.done) e) i m) k
                ∙ filled_snoc (ends_from 0 c.done) e m (omega (arith, k, place_left))
                ∙ ap (λ (i : ℕ). filled (ends_from 0 c.done ++ i ∷ []) e) f
                ∙ ap (λ (x : List ℕ). filled x e) (sym (ends_more 0 c.done r.bytes));
            fits = r.fits;
            inside = r.inside;
            few = omega (arith, place_left);
            same_bytes = b ∙ c.same_bytes;
            same_ends = length-set ends count m ∙ c.same_ends;
          }
