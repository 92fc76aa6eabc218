-- The joiner's loops over physical lines: what is kept from turn to turn, and what it says at the end.
use mathlib.Core.Path.{◌≡◌, refl, sym, ap, ◌∙◌}
use Prim.Native.Nat.{ℕ, ◌+◌, ◌≤◌}
use native.Mathlib.Omega.{arith}
use mathlib.Core.Bool.{true, false}
use mathlib.Core.Option.{Option}
use mathlib.Core.List.{List, [], ◌∷◌, ◌++◌}
use lib.ListN.{length, drop, length-append, drop_of_length-le}
use Rattle.lines.specs.Bytes.{Bytes, line_feeds}
use Rattle.lines.specs.Lines.{Line, physical, comment, joined}
use Rattle.lines.specs.Buffers.{filled, put}
use Rattle.lines.specs.Cursors.{lines_at, bytes_between, cursor_past}
use Rattle.lines.specs.LineSteps.{text_of, piece, ends, first_bytes, At, Standing, Onward, PhysicalAt, PieceOf, MeasuredAt}
use Rattle.lines.specs.declared.joiner.Cursor.{Cursor}
use Rattle.lines.specs.declared.joiner.Physical.{Physical}
use Rattle.lines.specs.declared.joiner.Piece.{Piece}
use Rattle.lines.proofs.Buffers.{filled_put}
use Rattle.lines.proofs.Bools.{by_cases}
use Rattle.lines.proofs.Physicals.{open_line, comment_first}
use Rattle.lines.proofs.Joining.{waiting, joined_nil, waiting_start, waiting_ends, waiting_more, waiting_first, joined-comment, piece-comment, piece-length}
use Rattle.lines.proofs.CursorSteps.{onward_here, onward_more, onward_number, bytes_between-length, some_line}

-- a physical line from a cursor up to an offset, and the physical lines from a cursor on
abbrev pub line_to : Bytes → Cursor → ℕ → Option ℕ → Line
line_to f c e o = record { number = c.line; bytes = bytes_between c.offset e f; end = o }

abbrev pub physical_at : Bytes → Cursor → List Line
physical_at f c = physical c.line c.offset (drop c.offset f)

-- the lines at a cursor, by the physical line that stands there
pub lines_cons : (f : Bytes) (c : Cursor) (p : Physical) (is : PhysicalAt f c p)
    → lines_at f c ≡ joined (line_to f c p.end is.end ∷ physical_at f p.next)
unfolding lines_at
lines_cons f c p is = ap joined is.first

pub lines_none : (f : Bytes) (c : Cursor) → length f ≤ c.offset → lines_at f c ≡ []
unfolding lines_at physical
lines_none f c h = rw (drop_of_length-le f h) joined_nil

-- ---- skipping comments

pub comment_over : (f : Bytes) (i : ℕ) → length f ≤ i → comment (drop i f) ≡ false
comment_over f i h = rw (drop_of_length-le f h) (comment_first [])

pub skip_more : (f : Bytes) (c : Cursor) (p : Physical) → PhysicalAt f c p → comment (drop c.offset f) ≡ true → lines_at f c ≡ lines_at f p.next
unfolding lines_at
skip_more f c p is e = lines_cons f c p is ∙ joined-comment (line_to f c p.end is.end) (physical_at f p.next) (is.mark ∙ e)

-- ---- joining

-- n bytes of the logical line at s have been met where the cursor is at c
pub record Walk (f : Bytes) (s c : Cursor) (n : ℕ) : Type 0 where
  pub so_far : Bytes
  pub size : length so_far ≡ n
  pub lines : lines_at f s ≡ waiting s.line so_far (lines_at f c)
  pub onward : Onward f s c
  pub number : c.line ≤ c.offset + 1
  pub shorter : s.offset + n ≤ c.offset

pub walk_start : (f : Bytes) (s : Cursor) → Standing f s → Walk f s s 0
walk_start f s h =
    let l : (p : Physical) × PhysicalAt f s p = some_line f s h.at in
    record {
      so_far = [];
      size = refl;
      lines = sym (ap (waiting s.line []) (lines_cons f s l.0 l.1) ∙ waiting_start (line_to f s l.0.end l.1.end) (physical_at f l.0.next) (l.1.mark ∙ h.stands) ∙ sym (lines_cons f s l.0 l.1));
      onward = onward_here f s (omega (arith, h.at.inside));
      number = h.at.number;
      shorter = omega arith;
    }

cursor_is : (d : Cursor) (o l : ℕ) → d.offset ≡ o → d.line ≡ l → d ≡ record { offset = o; line = l }
cursor_is d o l e k = rw (sym e, sym k)

module _ (f : Bytes) (s c : Cursor) (n : ℕ) (w : Walk f s c n) where
  -- the file has ended
  pub walk_over : length f ≤ c.offset → lines_at f s ≡ open_line s.line w.so_far ∷ []
  unfolding waiting
  walk_over h = w.lines ∙ ap (waiting s.line w.so_far) (lines_none f c h)

  pub measured_over : At f s → length f ≤ c.offset → MeasuredAt f s (record { length = n; next = c })
  unfolding cursor_past
  measured_over at h =
      let e : c.offset ≡ length f = omega (arith, w.onward.inside) in
      record {
        line = open_line s.line w.so_far;
        view = walk_over h ∙ ap (λ (r : List Line). open_line s.line w.so_far ∷ r) (sym (lines_none f c h));
        number_is = refl;
        length_is = sym w.size;
        onward = w.onward;
        later = omega (arith, at.inside);
        shorter = w.shorter;
        next_is = cursor_is c (length f) _ e (w.onward.counted ∙ ap (λ (z : ℕ). s.line + line_feeds (bytes_between s.offset z f)) e);
      }

  module _ (p : Physical) (is : PhysicalAt f c p) where
    pub onward_next : Onward f s p.next
    onward_next = onward_more f s c p.next w.onward is.onward

    pub number-next : p.next.line ≤ p.next.offset + 1
    number-next = onward_number f c p.next w.number is.onward

    pub lines_next : lines_at f s ≡ waiting s.line w.so_far (joined (line_to f c p.end is.end ∷ physical_at f p.next))
    lines_next = w.lines ∙ ap (waiting s.line w.so_far) (lines_cons f c p is)

    -- with the next piece the bytes met are still no more than the bytes passed
    pub piece_shorter : s.offset + (n + length (piece (text_of f c p))) ≤ p.end
    piece_shorter =
        by_cases (comment (text_of f c p))
        (λ e. omega (arith, ap length (piece-comment (text_of f c p) e).0, w.shorter, is.starts))
        (λ e. omega (arith, piece-length (text_of f c p) e, bytes_between-length c.offset p.end f is.stops, w.shorter, is.starts))

    -- the line that is joined
    pub whole : ends (text_of f c p) ≡ true
        → lines_at f s ≡ record { number = s.line; bytes = w.so_far ++ piece (text_of f c p); end = is.end } ∷ lines_at f p.next
    unfolding lines_at
    whole e = lines_next ∙ waiting_ends s.line w.so_far (line_to f c p.end is.end) (physical_at f p.next) e

    pub part : ends (text_of f c p) ≡ false
        → lines_at f s ≡ waiting s.line (w.so_far ++ piece (text_of f c p)) (lines_at f p.next)
    unfolding lines_at
    part e = lines_next ∙ waiting_more s.line w.so_far (line_to f c p.end is.end) (physical_at f p.next) e

    -- what has been met and the piece are a start of the line
    pub piece_room : n + length (piece (text_of f c p)) ≤ length (first_bytes (lines_at f s))
    piece_room =
        let j : length (w.so_far ++ piece (text_of f c p)) ≡ n + length (piece (text_of f c p)) =
        length-append w.so_far (piece (text_of f c p)) ∙ ap (λ (k : ℕ). k + length (piece (text_of f c p))) w.size in
        by_cases (ends (text_of f c p))
        (λ e. omega (arith, j, ap (λ (r : List Line). length (first_bytes r)) (whole e)))
        (λ e. omega (arith, j, ap (λ (r : List Line). length (first_bytes r)) (part e), waiting_first s.line (w.so_far ++ piece (text_of f c p)) (lines_at f p.next)))

    module _ (q : Piece) (of : PieceOf (text_of f c p) q) where
      size-next : length (w.so_far ++ piece (text_of f c p)) ≡ n + q.length
      size-next = length-append w.so_far (piece (text_of f c p)) ∙ omega (arith, w.size, of.length_is)

      pub walk_more : q.ends ≡ false → Walk f s p.next (n + q.length)
      walk_more e = record {
        so_far = w.so_far ++ piece (text_of f c p);
        size = size-next;
        lines = part (sym of.ends_is ∙ e);
        onward = onward_next;
        number = number-next;
        shorter = omega (arith, piece_shorter, of.length_is, is.ended_after);
      }

      pub measured_line : q.ends ≡ true → MeasuredAt f s (record { length = n + q.length; next = p.next })
      unfolding cursor_past
      measured_line e = record {
        line = record { number = s.line; bytes = w.so_far ++ piece (text_of f c p); end = is.end };
        view = whole (sym of.ends_is ∙ e);
        number_is = refl;
        length_is = sym size-next;
        onward = onward_next;
        later = omega (arith, w.onward.onward, is.later);
        shorter = omega (arith, piece_shorter, of.length_is, is.ended_after);
        next_is = cursor_is p.next _ _ (sym is.ended) (onward_next.counted ∙ ap (λ (z : ℕ). s.line + line_feeds (bytes_between s.offset z f)) (sym is.ended));
      }

-- ---- copying

-- the same walk, with what has been met at the front of the buffer
pub record Copied (f : Bytes) (s c : Cursor) (n : ℕ) (before now-holds : Bytes) : Type 0 where
  pub walk : Walk f s c n
  pub held : now-holds ≡ filled walk.so_far before
  pub same : length now-holds ≡ length before

pub copied_start : (f : Bytes) (s : Cursor) (d : Bytes) → Standing f s → Copied f s s 0 d d
unfolding walk_start
copied_start f s d h = record { walk = walk_start f s h; held = refl; same = refl }

module _ (f : Bytes) (s c : Cursor) (n : ℕ) (before d : Bytes) (k : Copied f s c n before d) where
  pub copied_over : length f ≤ c.offset → d ≡ filled (first_bytes (lines_at f s)) before
  copied_over h = k.held ∙ ap (λ (r : List Line). filled (first_bytes r) before) (sym (walk_over f s c n k.walk h))

  module _ (p : Physical) (is : PhysicalAt f c p) where
    pub copied_room : length (first_bytes (lines_at f s)) ≤ length before → n + length (piece (text_of f c p)) ≤ length d
    copied_room h = omega (arith, piece_room f s c n k.walk p is, k.same)

    module _ (q : Piece) (of : PieceOf (text_of f c p) q) (d' : Bytes) (put_is : d' ≡ put d n (piece (text_of f c p))) where
      next-held : d' ≡ filled (k.walk.so_far ++ piece (text_of f c p)) before
      next-held =
          put_is ∙ rw (k.held, ← k.walk.size) (filled_put k.walk.so_far (piece (text_of f c p)) before)

      pub copied_more : length d' ≡ length d → q.ends ≡ false → Copied f s p.next (n + q.length) before d'
      unfolding walk_more
      copied_more h e = record { walk = walk_more f s c n k.walk p is q of e; held = next-held; same = h ∙ k.same }

      pub copied_line : q.ends ≡ true → d' ≡ filled (first_bytes (lines_at f s)) before
      copied_line e = next-held ∙ ap (λ (r : List Line). filled (first_bytes r) before) (sym (whole f s c n k.walk p is (sym of.ends_is ∙ e)))
