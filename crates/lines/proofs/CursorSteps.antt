-- Cursors of a file: going on from one to the next, and the physical line at one.
use mathlib.Core.Path.{◌≡◌, refl, sym, ap, ◌∙◌}
use Prim.Native.Nat.{ℕ, suc, ◌+◌, ◌-◌, ◌≤◌, ◌<◌}
use native.Mathlib.Omega.{arith}
use mathlib.Core.Option.{none, some}
use mathlib.Core.List.{[], ◌∷◌, ◌++◌}
use lib.ListN.{length, take, drop, length-drop, drop_of_length-le, take-append-drop}
use lib.Seq.{take-add, drop-drop, length-take-le}
use lib.Dec.{ltb}
use borrow.Author.Tests.{ltb-true, ltb-false}
use Rattle.lines.specs.Bytes.{Bytes, line_feeds}
use Rattle.lines.specs.Lines.{physical, comment}
use Rattle.lines.specs.Cursors.{bytes_between}
use Rattle.lines.specs.LineSteps.{line_length, At, Onward, PhysicalAt}
use Rattle.lines.specs.declared.joiner.Cursor.{Cursor}
use Rattle.lines.specs.declared.joiner.Physical.{Physical}
use Rattle.lines.proofs.Bools.{by_cases}
use Rattle.lines.proofs.LineFeeds.{line_feeds_append, line_feeds-length}
use Rattle.lines.proofs.Physicals.{line_feeds_none, line_length_le, line_no_lf, line_then, line_alone, physical_shut, physical_open, comment_line}

pub bytes_between-length : (a e : ℕ) (f : Bytes) → e ≤ length f → length (bytes_between a e f) ≡ e - a
bytes_between-length a e f h = length-take-le (e - a) (drop a f) (simp length-drop (omega arith))

pub bytes_between_append : (a b e : ℕ) (f : Bytes) → a ≤ b → b ≤ e → bytes_between a e f ≡ bytes_between a b f ++ bytes_between b e f
bytes_between_append a b e f h k =
    let s : e - a ≡ (b - a) + (e - b) = omega arith in
    let d : a + (b - a) ≡ b = omega arith in
    ap (λ (n : ℕ). take n (drop a f)) s ∙ take-add (b - a) (e - b) (drop a f)
    ∙ ap (λ (r : Bytes). bytes_between a b f ++ take (e - b) r) (drop-drop (b - a) a f ∙ ap (λ (n : ℕ). drop n f) d)

bytes_between_none : (a : ℕ) (f : Bytes) → bytes_between a a f ≡ []
bytes_between_none a f = let e : a - a ≡ 0 = omega arith in rw e

module _ (f : Bytes) where
  pub onward_here : (c : Cursor) → c.offset ≤ length f → Onward f c c
  unfolding line_feeds
  onward_here c h = record { inside = h; onward = omega arith; counted = rw bytes_between_none (omega arith) }

  pub onward_more : (c d e : Cursor) → Onward f c d → Onward f d e → Onward f c e
  onward_more c d e h k = record {
    inside = k.inside;
    onward = omega (arith, h.onward, k.onward);
    counted =
        k.counted
        ∙ omega (
          arith,
          h.counted,
          line_feeds_append (bytes_between c.offset d.offset f) (bytes_between d.offset e.offset f),
          ap line_feeds (bytes_between_append c.offset d.offset e.offset f h.onward k.onward),
        );
  }

  -- the line number stays at most the offset and one
  pub onward_number : (c d : Cursor) → c.line ≤ c.offset + 1 → Onward f c d → d.line ≤ d.offset + 1
  onward_number c d h k =
      omega (arith, k.counted, k.onward, line_feeds-length (bytes_between c.offset d.offset f), bytes_between-length c.offset d.offset f k.inside)

-- the physical line at a cursor, by the offset where it ends
module _ (f : Bytes) (c : Cursor) (e : ℕ) (at : At f c) (is : e ≡ c.offset + line_length (drop c.offset f)) where
  line_is : take (line_length (drop c.offset f)) (drop c.offset f) ≡ bytes_between c.offset e f
  line_is = let s : line_length (drop c.offset f) ≡ e - c.offset = omega arith in ap (λ (n : ℕ). take n (drop c.offset f)) s

  left : length (drop c.offset f) ≡ length f - c.offset
  left = length-drop c.offset f

  pub at_shut : e < length f → PhysicalAt f c (record { end = e; next = record { offset = e + 1; line = c.line + 1 } })
  unfolding line_feeds
  at_shut h =
      let m : ℕ = line_length (drop c.offset f) in
      let k : m < length (drop c.offset f) = omega (arith, left) in
      let o : suc (c.offset + m) ≡ e + 1 = omega arith in
      let p : c.offset + suc m ≡ e + 1 = omega arith in
      let n : suc c.line ≡ c.line + 1 = omega arith in
      let w : e + 1 - c.offset ≡ m + 1 = omega arith in
      let tk : bytes_between c.offset (e + 1) f ≡ take m (drop c.offset f) ++ (0x0A ∷ []) =
      ap (λ (j : ℕ). take j (drop c.offset f)) w ∙ take-add m 1 (drop c.offset f)
      ∙ ap (λ (r : Bytes). take m (drop c.offset f) ++ take 1 r) (line_then (drop c.offset f) k) in
      let feeds : line_feeds (bytes_between c.offset (e + 1) f) ≡ 1 =
      ap line_feeds tk ∙ line_feeds_append (take m (drop c.offset f)) (0x0A ∷ [])
      ∙ omega (arith, line_feeds_none (take m (drop c.offset f)) (line_no_lf (drop c.offset f))) in
      let len : length (take m (drop c.offset f)) ≡ m = length-take-le m (drop c.offset f) (line_length_le (drop c.offset f)) in
      record {
        end = some (e + 1);
        first =
            physical_shut (drop c.offset f) c.line c.offset k
            ∙ rw (len, o, n, line_is, drop-drop (suc m) c.offset f, p);
        mark = ap comment (sym line_is) ∙ sym (comment_line (take m (drop c.offset f)) (drop (suc m) (drop c.offset f)))
            ∙ ap comment (ap (λ (r : Bytes). take m (drop c.offset f) ++ r) (sym (line_then (drop c.offset f) k)) ∙ take-append-drop m (drop c.offset f));
        ended = refl;
        onward = record { inside = omega arith; onward = omega arith; counted = omega (arith, feeds) };
        later = omega arith;
        starts = omega arith;
        stops = omega arith;
        ended_after = omega arith;
      }

  pub at_open : length f ≤ e → PhysicalAt f c (record { end = e; next = record { offset = e; line = c.line } })
  at_open h =
      let m : ℕ = line_length (drop c.offset f) in
      let k : length (drop c.offset f) ≤ m = omega (arith, left) in
      let all_of : bytes_between c.offset e f ≡ drop c.offset f = sym line_is ∙ line_alone (drop c.offset f) k in
      let none_left : drop e f ≡ [] = drop_of_length-le f h in
      let feeds : line_feeds (bytes_between c.offset e f) ≡ 0 = ap line_feeds (sym line_is) ∙ line_feeds_none (take m (drop c.offset f)) (line_no_lf (drop c.offset f)) in
      let top : e ≤ length f = omega (arith, left, line_length_le (drop c.offset f), at.inside) in
      record {
        end = none;
        first = physical_open (drop c.offset f) c.line c.offset (omega (arith, left, at.inside)) k ∙ rw (all_of, none_left) (unfold physical in refl);
        mark = ap comment all_of;
        ended = omega arith;
        onward = record { inside = top; onward = omega arith; counted = omega (arith, feeds) };
        later = omega (arith, at.inside);
        starts = omega arith;
        stops = top;
        ended_after = omega arith;
      }

pub some_line : (f : Bytes) (c : Cursor) → At f c → (p : Physical) × PhysicalAt f c p
some_line f c at =
    let e : ℕ = c.offset + line_length (drop c.offset f) in
    by_cases (ltb e (length f)) (λ h. (_, at_shut f c e at refl (ltb-true e (length f) h))) (λ h. (_, at_open f c e at refl (ltb-false e (length f) h)))
