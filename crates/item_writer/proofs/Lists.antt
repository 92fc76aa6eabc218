-- A loop that puts the items of a list into a text: what holds before the item with the index i, which begins at
-- `start`.
use mathlib.Core.Path.{◌≡◌, refl, sym, ◌∙◌}
use Prim.Native.Nat.{ℕ, ◌+◌, ◌-◌, ◌*◌, ◌≤◌, ◌<◌}
use native.Mathlib.Omega.{arith}
use mathlib.Core.Bool.{true}
use mathlib.Core.List.{List, [], ◌∷◌, ◌++◌, append_assoc, append-nil}
use lib.ListN.{length, take, drop, get_or, length-append, length-drop, drop_of_length-le}
use lib.Seq.{length-take-le}
use Rattle.lines.specs.Bytes.{Bytes}
use Rattle.items.specs.Write.{ends_fit, cut_from, items_in, written, last_end}
use Rattle.lines.specs.Buffers.{Puts}
use Rattle.item_writer.specs.Steps.{following}
use Rattle.item_writer.proofs.Rest.{fit_here, cut_here, last_here}
use Rattle.lines.proofs.Putting.{puts_nothing, puts_then}
use Rattle.item_writer.proofs.Written.{written_snoc, following_most}
use Rattle.item_writer.proofs.Cuts.{FirstEnd, first_end, last_above}

-- the part of the bytes from a start to an end
abbrev pub part : Bytes → (start end : ℕ) → Bytes
part bytes start end = take (end - start) (drop start bytes)

pub record Listed (bytes : Bytes) (ends : List ℕ) (text₀ text : Bytes) (at start i : ℕ) : Type 0 where
  pub inside : i ≤ length ends
  pub fits : ends_fit start (length bytes) (drop i ends) ≡ true
  pub last : last_end start (drop i ends) ≡ last_end 0 ends
  pub items : List Bytes
  pub count : length items ≡ i
  pub so_far : items_in bytes ends ≡ items ++ cut_from start bytes (drop i ends)
  pub puts : Puts text₀ 0 (written items) at text
  pub same : length text ≡ length text₀
  pub room : at ≤ 4 * start + 3 * i

-- the next item: where it ends, and that it fits into the text
pub record NextItem (bytes text : Bytes) (at start end : ℕ) : Type 0 where
  pub above : start ≤ end
  pub inside : end ≤ length bytes
  pub size : length (part bytes start end) ≡ end - start
  pub room : at + (4 * length (part bytes start end) + 3) ≤ length text

module _ (bytes : Bytes) (ends : List ℕ) (text₀ : Bytes) where
  pub listed_start : ends_fit 0 (length bytes) ends ≡ true → Listed bytes ends text₀ text₀ 0 0 0
  unfolding written
  listed_start h =
      record {
        inside = omega arith;
        fits = h;
        last = refl;
        items = [];
        count = refl;
        so_far = refl;
        puts = puts_nothing text₀ 0;
        same = refl;
        room = omega arith;
      }

  module _ (text : Bytes) (at start i : ℕ) (l : Listed bytes ends text₀ text at start i) where
    module _ (h : i < length ends) (k : 4 * last_end 0 ends + 3 * length ends ≤ length text₀) where
      next_end : FirstEnd start (length bytes) (get_or ends i 0) (drop (i + 1) ends)
      next_end = first_end start (length bytes) (get_or ends i 0) (drop (i + 1) ends) (sym (fit_here ends i h start (length bytes)) ∙ l.fits)

      pub next_item : NextItem bytes text at start (get_or ends i 0)
      next_item =
          let e : ℕ = get_or ends i 0 in
          let f = next_end in
          let z : last_end e (drop (i + 1) ends) ≡ last_end 0 ends = sym (last_here ends i h start) ∙ l.last in
          let a = last_above (drop (i + 1) ends) e (length bytes) f.others in
          let s : length (part bytes start e) ≡ e - start =
          length-take-le (e - start) (drop start bytes) (omega (arith, length-drop start bytes)) in
          record { above = f.above; inside = f.inside; size = s; room = omega (arith, l.room, l.same, z) }

      pub listed_more : (r : ℕ) (text' : Bytes) → Puts text at (following i (part bytes start (get_or ends i 0))) r text'
          → length text' ≡ length text → Listed bytes ends text₀ text' r (get_or ends i 0) (i + 1)
      listed_more r text' p s =
          let e : ℕ = get_or ends i 0 in
          let x : Bytes = part bytes start e in
          let f = next_end in
          let n = next_item in
          record {
            inside = omega arith;
            fits = f.others;
            last = sym (last_here ends i h start) ∙ l.last;
            items = l.items ++ x ∷ [];
            count = length-append l.items (x ∷ []) ∙ rw l.count;
            so_far = l.so_far ∙ rw (cut_here ends i h start bytes, append_assoc);
            puts = rw (written_snoc l.items x, l.count) (puts_then (omega (arith, l.puts.behind)) l.puts p);
            same = s ∙ l.same;
            room = omega (arith, p.behind, following_most i x, l.room);
          }

    pub listed_done : length ends ≤ i → Puts text₀ 0 (written (items_in bytes ends)) at text
    unfolding cut_from
    listed_done h =
        let e : items_in bytes ends ≡ l.items = l.so_far ∙ rw (drop_of_length-le ends h) (append-nil l.items) in
        rw e l.puts
