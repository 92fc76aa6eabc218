-- An item read into a buffer, piece after piece. What the loop keeps: the bytes read so far stand in the buffer,
-- and the item is these bytes before the rest from the offset on.
use mathlib.Core.Path.{◌≡◌, refl, sym, ap, subst, ◌∙◌}
use Prim.Native.Nat.{ℕ, ◌+◌, ◌≤◌}
use native.Mathlib.Nat.{add-zero}
use native.Mathlib.Omega.{arith}
use mathlib.Core.List.{List, [], ◌∷◌, ◌++◌, append_assoc, append-nil}
use lib.ListN.{length, set, length-append, length-set}
use Rattle.lines.specs.Bytes.{Bytes}
use Rattle.lines.specs.Buffers.{put}
use Rattle.lines.proofs.Buffers.{put_nil, put-put, length-put}
use Rattle.lines.proofs.Putting.{puts_byte}
use Rattle.items.specs.Pieces.{Piece}
use Rattle.items.specs.Split.{Step, item, end, refusal, with_bytes}
use Rattle.items.specs.Steps.{few_bytes, pieces_at, rest_of, PieceAt, PlainAt, BytesAt, EndsAt, ItemRead}
use Rattle.items.specs.declared.few.Few.{Few}
use Rattle.items.specs.declared.pieces.Mode.{Mode}
use Rattle.items.specs.declared.pieces.Piece as code
use Rattle.std.specs.Prelude.{Result}
use Rattle.items.specs.declared.error.Error.{Error}

-- ---- bytes before the rest of an item

with_nil : (s : Step) → s ≡ with_bytes [] s
unfolding with_bytes
with_nil (item bs ps) = refl
with_nil end = refl
with_nil (refusal n p) = refl

with_both : (a b : Bytes) (s : Step) → with_bytes a (with_bytes b s) ≡ with_bytes (a ++ b) s
unfolding with_bytes
with_both a b (item bs ps) = ap (λ (l : Bytes). item l ps) (sym (append_assoc a b bs))
with_both a b end = refl
with_both a b (refusal n p) = refl

with_item : (a : Bytes) (ps : List Piece) → with_bytes a (item [] ps) ≡ item a ps
unfolding with_bytes
with_item a ps = ap (λ (l : Bytes). item l ps) (append-nil a)

with_refusal : (a : Bytes) (n p : ℕ) → with_bytes a (refusal n p) ≡ refusal n p
unfolding with_bytes
with_refusal a n p = refl

-- ---- the loop

-- d is the buffer as it was
pub record Reading (t : Bytes) (m : Mode) (start n : ℕ) (d buffer : Bytes) (at size : ℕ) : Type 0 where
  pub bytes : Bytes
  pub step : rest_of m (pieces_at t start) ≡ with_bytes bytes (rest_of m (pieces_at t at))
  pub buffer_is : buffer ≡ put d n bytes
  pub size_is : size ≡ n + length bytes
  pub fits : size ≤ at
  pub inside : at ≤ length t
  pub same : length buffer ≡ length d

module _ (t : Bytes) (m : Mode) (start n : ℕ) (d : Bytes) where
  pub reading_start : start ≤ length t → n ≤ start → Reading t m start n d d start n
  reading_start h k =
      record {
        bytes = [];
        step = with_nil (rest_of m (pieces_at t start));
        buffer_is = sym (put_nil d n);
        size_is = sym (add-zero n);
        fits = k;
        inside = h;
        same = refl;
      }

  module _ (buffer : Bytes) (at size : ℕ) (r : Reading t m start n d buffer at size) where
    -- one piece more, copied to the end of the bytes
    pub reading_more : (f : Few) (next : ℕ) → BytesAt m t at f next → (p : Bytes) → p ≡ few_bytes f → (buffer' : Bytes)
        → buffer' ≡ put buffer size p → length t ≤ length d → n ≤ length d
        → Reading t m start n d buffer' next (size + length p)
    reading_more f next b p e buffer' q h k =
        let l = ap length e in
        let w : buffer' ≡ put buffer size (few_bytes f) = q ∙ ap (put buffer size) e in
        record {
          bytes = r.bytes ++ few_bytes f;
          step = r.step ∙ ap (with_bytes r.bytes) b.step ∙ with_both r.bytes (few_bytes f) (rest_of m (pieces_at t next));
          buffer_is =
              w ∙ ap (λ (x : Bytes). put x size (few_bytes f)) r.buffer_is ∙ ap (λ (i : ℕ). put (put d n r.bytes) i (few_bytes f)) r.size_is
              ∙ put-put d n r.bytes (few_bytes f) k;
          size_is = omega (arith, r.size_is, length-append r.bytes (few_bytes f));
          fits = omega (arith, b.fits, r.fits);
          inside = b.inside;
          same = ap length w ∙ length-put buffer size (few_bytes f) (omega arith) ∙ r.same;
        }

    -- a byte that stands for itself, stored at the end of the bytes
    pub reading_byte : (b : ℕ) → PlainAt m t at b → (buffer' : Bytes) → buffer' ≡ set buffer size b
        → length t ≤ length d → n ≤ length d → Reading t m start n d buffer' (at + 1) (size + 1)
    reading_byte b p buffer' w h k =
        let x : Bytes = b ∷ [] in
        let q : buffer' ≡ put buffer size x = w ∙ (puts_byte buffer size b (omega (arith, p.inside, r.fits, r.same))).after in
        record {
          bytes = r.bytes ++ x;
          step = r.step ∙ ap (with_bytes r.bytes) p.step ∙ with_both r.bytes x (rest_of m (pieces_at t (at + 1)));
          buffer_is =
              q ∙ ap (λ (y : Bytes). put y size x) r.buffer_is ∙ ap (λ (i : ℕ). put (put d n r.bytes) i x) r.size_is
              ∙ put-put d n r.bytes x k;
          size_is = omega (arith, r.size_is, length-append r.bytes x);
          fits = omega (arith, r.fits);
          inside = omega (arith, p.inside);
          same = ap length w ∙ simp length-set r.same;
        }

    -- the item has ended
    pub reading_ended : (next : ℕ) → EndsAt m t at next → ItemRead t (rest_of m (pieces_at t start)) n d buffer next size
    reading_ended next e =
        record {
          bytes = r.bytes;
          step = r.step ∙ ap (with_bytes r.bytes) e.step ∙ with_item r.bytes (pieces_at t next);
          buffer = r.buffer_is;
          size = r.size_is;
          fits = omega (arith, r.fits, e.later);
          inside = e.inside;
        }

    -- a refusal was met
    pub reading_refused : (k p : ℕ) → rest_of m (pieces_at t at) ≡ refusal k p → rest_of m (pieces_at t start) ≡ refusal k p
    reading_refused k p e = r.step ∙ ap (with_bytes r.bytes) e ∙ with_refusal r.bytes k p

-- a piece that is known
pub piece_known : (m : Mode) (t : Bytes) (at : ℕ) (r r' : Result code.Piece Error) → r ≡ r' → PieceAt m t at r → PieceAt m t at r'
piece_known m t at r r' e h = subst (PieceAt m t at) e h
