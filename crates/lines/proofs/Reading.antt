-- Reading on from a cursor: what the answer of the joiner is in each case, and the law that the crates
-- above rest on (`ahead`): behind the next line stand the lines from the next cursor on, further on in
-- the file, and the line has no more bytes than were passed.
use mathlib.Core.Path.{◌≡◌, refl, sym, ap, ◌∙◌, subst}
use mathlib.Core.Logic.{◌⊎◌, inl, inr}
use Prim.Native.Nat.{ℕ, zero, suc, ◌+◌, ◌≤◌, ◌<◌}
use native.Mathlib.Omega.{arith}
use mathlib.Core.Option.{Option, none, some}
use mathlib.Core.List.{List, [], ◌∷◌}
use lib.ListN.{length, drop}
use lib.Dec.{leb, ltb}
use borrow.Author.Tests.{lt-ltb, le-ltb, le-leb, lt-leb, ltb-true, ltb-false, leb-true, leb-false}
use Rattle.lines.specs.Cursors.{first_cursor}
use Rattle.lines.specs.Laws.{Ahead}
use Rattle.lines.specs.Bytes.{Bytes, line_feeds}
use Rattle.lines.specs.Lines.{Line, comment, logical}
use Rattle.lines.specs.Answers.{Outcome, accepted, refused}
use Rattle.lines.specs.Buffers.{filled}
use Rattle.lines.specs.Cursors.{lines_at, logical_from, end_of, bytes_between, cursor_past, next_of, next, found, answer_for, bytes_for, next_means, NextLine}
use Rattle.lines.specs.LineSteps.{piece, ends, At, PhysicalAt, PieceOf, Skipped, MeasuredAt}
use Rattle.lines.specs.declared.joiner.Cursor.{Cursor}
use Rattle.lines.specs.declared.joiner.LogicalLine.{LogicalLine}
use Rattle.lines.specs.declared.error.Error.{Error}
use Rattle.std.specs.Prelude.{Result}
use Rattle.std.specs.Prelude as code
use Rattle.lines.specs.declared.joiner.Physical.{Physical}
use Rattle.lines.specs.declared.joiner.Piece.{Piece}
use Rattle.lines.specs.declared.joiner.Measured.{Measured}
use Rattle.lines.proofs.Bools.{by_cases, clash}
use Rattle.lines.proofs.LineFeeds.{line_feeds_append}
use Rattle.lines.proofs.CursorSteps.{onward_here, onward_more, onward_number, bytes_between_append, some_line}
use Rattle.lines.proofs.Walk.{Walk, walk_start, walk_more, measured_line, measured_over, lines_none, skip_more, comment_over}

-- ---- cursors that have lines, and that have none

module _ (f : Bytes) (c : Cursor) where
  pub from_valid : c.line ≤ c.offset + 1 → logical_from f c ≡ lines_at f c
  unfolding logical_from
  from_valid h = rw (le-leb c.line (c.offset + 1) h)

  pub from_outside : c.offset + 1 < c.line → logical_from f c ≡ []
  unfolding logical_from
  from_outside h = rw (lt-leb c.line (c.offset + 1) h)

  pub from_past : length f ≤ c.offset → logical_from f c ≡ []
  unfolding logical_from
  from_past h =
      by_cases (leb c.line (c.offset + 1)) (λ e. rw (e, lines_none f c h)) (λ e. rw e)

-- ---- the answer, case by case

module _ (f : Bytes) (c : Cursor) (n : ℕ) where
  pub next_short : n < 4096 → next f c n ≡ refused 1 0
  unfolding next
  next_short h = rw (lt-ltb n 4096 h)

  module _ (room : 4096 ≤ n) where
    next_from : next f c n ≡ next_of (logical_from f c)
    unfolding next
    next_from = rw (le-ltb n 4096 room)

    pub next_none : logical_from f c ≡ [] → next f c n ≡ accepted none
    unfolding next_of
    next_none e = next_from ∙ ap next_of e

    module _ (l : Line) (ls : List Line) (e : logical_from f c ≡ l ∷ ls) where
      pub next_found : length l.bytes ≤ 4096 → next f c n ≡ accepted (some l)
      unfolding next_of
      next_found h = next_from ∙ ap next_of e ∙ rw (le-ltb 4096 (length l.bytes) h)

      pub next_long : 4096 < length l.bytes → next f c n ≡ refused 5 l.number
      unfolding next_of
      next_long h = next_from ∙ ap next_of e ∙ rw (lt-ltb 4096 (length l.bytes) h)

-- the promise, from what the next line is
pub promised : (f : Bytes) (c : Cursor) (d d' : Bytes) (r : Result (code.Option LogicalLine) Error) (o : Outcome (Option Line)) → next f c (length d) ≡ o
    → next_means r ≡ answer_for f c o → d' ≡ filled (bytes_for o) d → NextLine f c d d' r
promised f c d d' r o e a b = record { answer = a ∙ ap (answer_for f c) (sym e); buffer = b ∙ ap (λ (x : Outcome (Option Line)). filled (bytes_for x) d) (sym e) }

-- ---- the cursor past the line

-- the comments that were skipped are passed too
pub past_skipped : (f : Bytes) (c s : Cursor) (m : Measured) → Skipped f c s → (is : MeasuredAt f s m) → cursor_past f c is.line ≡ m.next
unfolding cursor_past
past_skipped f c s m k is =
    let e : ℕ = end_of f is.line.end in
    let at : m.next.offset ≡ e = ap (λ (x : Cursor). x.offset) is.next_is in
    let ll : m.next.line ≡ s.line + line_feeds (bytes_between s.offset e f) = ap (λ (x : Cursor). x.line) is.next_is in
    let le : s.offset ≤ e = omega (arith, is.later) in
    let q : c.line + line_feeds (bytes_between c.offset e f) ≡ s.line + line_feeds (bytes_between s.offset e f) =
    omega (arith, k.onward.counted, ap line_feeds (bytes_between_append c.offset s.offset e f k.onward.onward le), line_feeds_append (bytes_between c.offset s.offset f) (bytes_between s.offset e f)) in
    rw q (sym is.next_is)

-- ---- the answer, where a valid cursor c has been taken past comments to s

module _ (f : Bytes) (c s : Cursor) (n : ℕ) (room : 4096 ≤ n) (v : c.line ≤ c.offset + 1) (k : Skipped f c s) where
  pub next_over : length f ≤ s.offset → next f c n ≡ accepted none
  next_over h = next_none f c n room (from_valid f c v ∙ k.lines ∙ lines_none f s h)

  module _ (m : Measured) (is : MeasuredAt f s m) where
    from_measured : logical_from f c ≡ is.line ∷ lines_at f m.next
    from_measured = from_valid f c v ∙ k.lines ∙ is.view

    pub next-measured : m.length ≤ 4096 → next f c n ≡ accepted (some is.line)
    next-measured h = next_found f c n room is.line (lines_at f m.next) from_measured (omega (arith, is.length_is))

    pub next_too_long : 4096 < m.length → next f c n ≡ refused 5 s.line
    next_too_long h = next_long f c n room is.line (lines_at f m.next) from_measured (omega (arith, is.length_is)) ∙ ap (refused 5) is.number_is

    pub answer_measured : accepted (found m.length s.line m.next) ≡ answer_for f c (accepted (some is.line))
    answer_measured = rw (is.length_is, sym is.number_is, sym (past_skipped f c s m k is))

-- ---- the view of the lines from a cursor on, by recursion on what is left of the file

skipped : (k : ℕ) (f : Bytes) (c : Cursor) → length f ≤ c.offset + k → c.offset ≤ length f → c.line ≤ c.offset + 1 → (d : Cursor) × Skipped f c d
skipped zero f c h i v = (c, record { onward = onward_here f c i; lines = refl; stands = comment_over f c.offset (omega arith) })
skipped (suc k) f c h i v =
    by_cases (ltb c.offset (length f))
    (λ b. by_cases (comment (drop c.offset f))
    (λ e. let l : (p : Physical) × PhysicalAt f c p = some_line f c (record { inside = ltb-true c.offset (length f) b; number = v }) in
    let n : Cursor = l.0.next in
    let r : (d : Cursor) × Skipped f n d = skipped k f n (omega (arith, l.1.later)) l.1.onward.inside (onward_number f c n v l.1.onward) in
    (r.0, record { onward = onward_more f c n r.0 l.1.onward r.1.onward; lines = skip_more f c l.0 l.1 e ∙ r.1.lines; stands = r.1.stands }))
    (λ e. (c, record { onward = onward_here f c i; lines = refl; stands = e })))
    (λ b. (c, record { onward = onward_here f c i; lines = refl; stands = comment_over f c.offset (ltb-false c.offset (length f) b) }))

measured : (k : ℕ) (f : Bytes) (s c : Cursor) (n : ℕ) → length f ≤ c.offset + k → At f s → Walk f s c n → (m : Measured) × MeasuredAt f s m
measured zero f s c n h at w = (_, measured_over f s c n w at (omega arith))
measured (suc k) f s c n h at w =
    by_cases (ltb c.offset (length f))
    (λ b. let l : (p : Physical) × PhysicalAt f c p = some_line f c (record { inside = ltb-true c.offset (length f) b; number = w.number }) in
    let t : Bytes = bytes_between c.offset l.0.end f in
    let q : Piece = record { length = length (piece t); ends = ends t } in
    let of : PieceOf t q = record { length_is = refl; ends_is = refl } in
    by_cases (ends t)
    (λ e. (_, measured_line f s c n w l.0 l.1 q of e))
    (λ e. measured k f s l.0.next _ (omega (arith, l.1.later)) at (walk_more f s c n w l.0 l.1 q of e)))
    (λ b. (_, measured_over f s c n w at (ltb-false c.offset (length f) b)))

view : (f : Bytes) (c : Cursor) → (logical_from f c ≡ []) ⊎ ((l : Line) × (logical_from f c ≡ l ∷ logical_from f (cursor_past f c l)) × Ahead f c l (logical_from f (cursor_past f c l)))
view f c =
    by_cases (leb c.line (c.offset + 1))
    (λ v. by_cases (leb c.offset (length f)) (λ i. go (leb-true _ _ v) (leb-true _ _ i)) (λ i. inl (from_past f c (omega (arith, leb-false c.offset (length f) i)))))
    (λ v. inl (from_outside f c (leb-false _ _ v)))
  where
    line : c.line ≤ c.offset + 1 → (s : Cursor) → Skipped f c s → s.offset < length f
        → (l : Line) × (logical_from f c ≡ l ∷ logical_from f (cursor_past f c l)) × Ahead f c l (logical_from f (cursor_past f c l))
    line v s k b =
        let at : At f s = record { inside = b; number = onward_number f c s v k.onward } in
        let m : (m : Measured) × MeasuredAt f s m = measured (length f) f s s 0 (omega arith) at (walk_start f s (record { at = at; stands = k.stands })) in
        let is : MeasuredAt f s m.0 = m.1 in
        let p : cursor_past f c is.line ≡ m.0.next = past_skipped f c s m.0 k is in
        let nv : m.0.next.line ≤ m.0.next.offset + 1 = onward_number f s m.0.next at.number is.onward in
        let e : logical_from f c ≡ is.line ∷ logical_from f (cursor_past f c is.line) =
        from_valid f c v ∙ k.lines ∙ is.view ∙ ap (λ (r : List Line). is.line ∷ r) (sym (from_valid f m.0.next nv) ∙ ap (logical_from f) (sym p)) in (
          is.line,
          e,
          record {
            others = refl;
            inside = rw p is.onward.inside;
            later = rw p (omega (arith, is.later, k.onward.onward));
            shorter = rw p (omega (arith, is.shorter, is.length_is, k.onward.onward));
            number = rw p nv;
            first = omega (arith, is.number_is, k.onward.counted);
          },
        )

    go : c.line ≤ c.offset + 1 → c.offset ≤ length f
        → (logical_from f c ≡ []) ⊎ ((l : Line) × (logical_from f c ≡ l ∷ logical_from f (cursor_past f c l)) × Ahead f c l (logical_from f (cursor_past f c l)))
    go v i =
        let k : (s : Cursor) × Skipped f c s = skipped (length f) f c (omega arith) i v in
        by_cases (ltb k.0.offset (length f))
        (λ b. inr (line v k.0 k.1 (ltb-true _ _ b)))
        (λ b. inl (from_valid f c v ∙ k.1.lines ∙ lines_none f k.0 (ltb-false _ _ b)))

-- the law for the crates above
pub ahead : (f : Bytes) (c : Cursor) (l : Line) (ls : List Line) → logical_from f c ≡ l ∷ ls → Ahead f c l ls
ahead f c l ls e = go (view f c)
  where
    go : (logical_from f c ≡ []) ⊎ ((k : Line) × (logical_from f c ≡ k ∷ logical_from f (cursor_past f c k)) × Ahead f c k (logical_from f (cursor_past f c k))) → Ahead f c l ls
    go (inl q) = let z : [] ≡ l ∷ ls = sym q ∙ e in clash (cc)
    go (inr t) =
        let x : l ∷ ls ≡ t.0 ∷ logical_from f (cursor_past f c t.0) = sym e ∙ t.1 in
        let a : t.0 ≡ l = cc in
        let b : logical_from f (cursor_past f c t.0) ≡ ls = cc in
        subst (λ (z : Line). Ahead f c z ls) a (subst (Ahead f c t.0) b t.2)

pub from_start : (f : Bytes) → logical_from f first_cursor ≡ logical f
unfolding logical lines_at
from_start f = from_valid f first_cursor (omega arith)
