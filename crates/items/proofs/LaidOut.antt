-- Items laid out as bytes and ends: what is cut out of bytes and laid out again, and what is laid out and cut out again.
-- Both by induction over the items, from any offset on.
use mathlib.Core.Path.{◌≡◌, refl, sym, ap, ◌∙◌}
use Prim.Native.Nat.{ℕ, suc, ◌+◌, ◌-◌, ◌≤◌}
use native.Mathlib.Omega.{arith}
use mathlib.Core.Bool.{true, ◌&&◌}
use mathlib.Core.List.{List, [], ◌∷◌, ◌++◌, append_assoc, append-nil}
use lib.ListN.{length, take, drop, length-append, length-drop}
use lib.Seq.{length-take-le, take-add, drop-append_seam, take_at}
use lib.Dec.{leb}
use borrow.Author.Tests.{leb-true, le-leb}
use Rattle.lines.specs.Bytes.{Bytes}
use Rattle.lines.proofs.Bools.{and_left, and_right, both}
use Rattle.items.specs.Split.{bytes_of, ends_from}
use Rattle.items.specs.Write.{ends_fit, cut_from, items_in, last_end}
use Rattle.items.specs.Laws.{LaidAgain}

-- ---- cut and laid again

-- the same from an offset on
record LaidFrom (at : ℕ) (bs : Bytes) (ends : List ℕ) : Type 0 where
  bytes : take at bs ++ bytes_of (cut_from at bs ends) ≡ take (last_end at ends) bs
  ends_again : ends_from at (cut_from at bs ends) ≡ ends
  count : length (cut_from at bs ends) ≡ length ends
  inside : last_end at ends ≤ length bs

laid_from : (ends : List ℕ) (at : ℕ) (bs : Bytes) → at ≤ length bs → ends_fit at (length bs) ends ≡ true → LaidFrom at bs ends
unfolding ends_fit cut_from bytes_of ends_from
laid_from [] at bs l h = record { bytes = append-nil (take at bs); ends_again = refl; count = refl; inside = l }
laid_from (e ∷ es) at bs l h =
    let two : (leb at e && leb e (length bs)) ≡ true = and_left (leb at e && leb e (length bs)) (ends_fit e (length bs) es) h in
    let low : at ≤ e = leb-true at e (and_left (leb at e) (leb e (length bs)) two) in
    let high : e ≤ length bs = leb-true e (length bs) (and_right (leb at e) (leb e (length bs)) two) in
    let r = laid_from es e bs high (and_right (leb at e && leb e (length bs)) (ends_fit e (length bs) es) h) in
    let sum : at + (e - at) ≡ e = omega arith in
    let front : take at bs ++ take (e - at) (drop at bs) ≡ take e bs = sym (take-add at (e - at) bs) ∙ rw sum in
    let size : length (take (e - at) (drop at bs)) ≡ e - at =
    length-take-le (e - at) (drop at bs) (simp length-drop (omega arith)) in
    record {
      bytes = rw (← append_assoc (take at bs) (take (e - at) (drop at bs)) (bytes_of (cut_from e bs es)), front) r.bytes;
      ends_again = rw (size, sum, r.ends_again);
      count = ap suc r.count;
      inside = r.inside;
    }

pub cut_laid_again : (bs : Bytes) (ends : List ℕ) → ends_fit 0 (length bs) ends ≡ true → LaidAgain bs ends
cut_laid_again bs ends h =
    let r = laid_from ends 0 bs (omega arith) h in
    record { bytes = r.bytes; ends_again = r.ends_again; count = r.count; inside = r.inside }

-- ---- laid and cut again

-- behind other bytes
fits_again : (xs : List Bytes) (at size : ℕ) → at + length (bytes_of xs) ≤ size → ends_fit at size (ends_from at xs) ≡ true
unfolding ends_fit ends_from bytes_of
fits_again [] at size h = refl
fits_again (x ∷ xs) at size h =
    let l : length (x ++ bytes_of xs) ≡ length x + length (bytes_of xs) = length-append x (bytes_of xs) in
    both (leb at (at + length x) && leb (at + length x) size) _
    (both _ _ (le-leb at (at + length x) (omega arith)) (le-leb (at + length x) size (omega arith)))
    (fits_again xs (at + length x) size (omega arith))

cut_again : (xs : List Bytes) (front : Bytes) → cut_from (length front) (front ++ bytes_of xs) (ends_from (length front) xs) ≡ xs
unfolding cut_from ends_from bytes_of
cut_again [] front = refl
cut_again (x ∷ xs) front =
    let n : length front + length x - length front ≡ length x = omega arith in
    rw (
      n,
      drop-append_seam front (x ++ bytes_of xs),
      take_at x (bytes_of xs) (length x) refl,
      ← append_assoc front x (bytes_of xs),
      ← length-append front x,
      cut_again xs (front ++ x),
    )

pub laid_cut_again : (xs : List Bytes)
    → (ends_fit 0 (length (bytes_of xs)) (ends_from 0 xs) ≡ true) × (items_in (bytes_of xs) (ends_from 0 xs) ≡ xs)
laid_cut_again xs = (fits_again xs 0 (length (bytes_of xs)) (omega arith), cut_again xs [])
