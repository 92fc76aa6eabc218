-- What the promise of `next_line` tells a caller, for each answer.
use mathlib.Core.Path.{◌≡◌, refl, ap, ◌∙◌}
use Prim.Native.Nat.{ℕ, ◌≤◌, ◌<◌}
use native.Mathlib.Omega.{arith}
use mathlib.Core.Option.{Option, none, some}
use mathlib.Core.List.{List, [], ◌∷◌}
use lib.ListN.{length}
use lib.Dec.{ltb}
use borrow.Author.Tests.{ltb-true, ltb-false}
use Rattle.lines.specs.Laws.{Ahead}
use Rattle.lines.specs.Bytes.{Bytes}
use Rattle.lines.specs.Lines.{Line}
use Rattle.lines.specs.Answers.{Outcome, accepted, refused, number_of, place_of}
use Rattle.lines.specs.Buffers.{filled}
use Rattle.lines.specs.Cursors.{logical_from, cursor_past, next, found, ended, answer_for, bytes_for, NextLine}
use Rattle.lines.specs.declared.error.Error.{Error}
use Rattle.lines.specs.declared.joiner.Cursor.{Cursor}
use Rattle.std.specs.Prelude.{Ok, Err, Some, None}
use Rattle.lines.specs.Laws.{FoundLine, LongLine}
use Rattle.lines.proofs.Bools.{by_cases, clash}
use Rattle.lines.proofs.Reading.{ahead, next_short, next_none, next_found, next_long}

-- ---- the four cases of the next line

pub data Case (f : Bytes) (c : Cursor) (n : ℕ) : Type 0 where
  short : n < 4096 → next f c n ≡ refused 1 0 → Case f c n
  over : 4096 ≤ n → logical_from f c ≡ [] → next f c n ≡ accepted none → Case f c n
  long : (l : Line) (ls : List Line) → 4096 ≤ n → logical_from f c ≡ l ∷ ls → 4096 < length l.bytes → next f c n ≡ refused 5 l.number → Case f c n
  line : (l : Line) (ls : List Line) → 4096 ≤ n → logical_from f c ≡ l ∷ ls → length l.bytes ≤ 4096 → next f c n ≡ accepted (some l) → Case f c n

pub case : (f : Bytes) (c : Cursor) (n : ℕ) → Case f c n
case f c n =
    by_cases (ltb n 4096)
    (λ e. short (ltb-true n 4096 e) (next_short f c n (ltb-true n 4096 e)))
    (λ e. go (ltb-false n 4096 e) (logical_from f c) refl)
  where
    go : 4096 ≤ n → (ls : List Line) → logical_from f c ≡ ls → Case f c n
    go h [] e = over h e (next_none f c n h e)
    go h (l ∷ ls) e =
        by_cases (ltb 4096 (length l.bytes))
        (λ b. long l ls h e (ltb-true _ _ b) (next_long f c n h l ls e (ltb-true _ _ b)))
        (λ b. line l ls h e (ltb-false _ _ b) (next_found f c n h l ls e (ltb-false _ _ b)))

-- ---- one law for each answer

module _ (f : Bytes) (c : Cursor) (before after : Bytes) where
  pub found_line : (n m : ℕ) (d : Cursor) → NextLine f c before after (Ok (Some (record { length = n; first = m; next = d }))) → FoundLine f c before after n m d
  found_line n m d p = go (case f c (length before))
    where
      go : Case f c (length before) → FoundLine f c before after n m d
      go (short h e) = let q : accepted (found n m d) ≡ refused 1 0 = p.answer ∙ ap (answer_for f c) e in clash (cc)
      go (over h v e) = let q : accepted (found n m d) ≡ accepted ended = p.answer ∙ ap (answer_for f c) e in clash (cc)
      go (long l ls h v b e) = let q : accepted (found n m d) ≡ refused 5 l.number = p.answer ∙ ap (answer_for f c) e in clash (cc)
      go (line l ls h v b e) =
          let q : accepted (found n m d) ≡ accepted (found (length l.bytes) l.number (cursor_past f c l)) = p.answer ∙ ap (answer_for f c) e in
          let qn : length l.bytes ≡ n = cc in
          let qm : l.number ≡ m = cc in
          let qd : cursor_past f c l ≡ d = cc in
          let a : Ahead f c l ls = ahead f c l ls v in
          record {
            line = l;
            view = v ∙ ap (λ (r : List Line). l ∷ r) (a.others ∙ ap (logical_from f) qd);
            number_is = qm;
            length_is = qn;
            fits = omega (arith, qn);
            buffer = p.buffer ∙ ap (λ (o : Outcome (Option Line)). filled (bytes_for o) before) e;
            inside = rw qd at a.inside;
            later = rw qd at a.later;
            shorter = omega (arith, qn, a.shorter, ap (λ (x : Cursor). x.offset) qd);
          }

  pub ended_line : NextLine f c before after (Ok None) → (logical_from f c ≡ []) × (after ≡ before)
  ended_line p = go (case f c (length before))
    where
      go : Case f c (length before) → (logical_from f c ≡ []) × (after ≡ before)
      go (short h e) = let q : accepted ended ≡ refused 1 0 = p.answer ∙ ap (answer_for f c) e in clash (cc)
      go (over h v e) = (v, p.buffer ∙ ap (λ (o : Outcome (Option Line)). filled (bytes_for o) before) e)
      go (long l ls h v b e) = let q : accepted ended ≡ refused 5 l.number = p.answer ∙ ap (answer_for f c) e in clash (cc)
      go (line l ls h v b e) =
          let q : accepted ended ≡ accepted (found (length l.bytes) l.number (cursor_past f c l)) = p.answer ∙ ap (answer_for f c) e in clash (cc)

  -- with a buffer that is long enough
  pub long_line : (e : Error) → 4096 ≤ length before → NextLine f c before after (Err e) → LongLine f c before after e
  long_line e room p = go (case f c (length before))
    where
      go : Case f c (length before) → LongLine f c before after e
      go (short h k) = absurd (omega arith)
      go (over h v k) = let q : refused (number_of e) (place_of e) ≡ accepted ended = p.answer ∙ ap (answer_for f c) k in clash (cc)
      go (long l ls h v b k) =
          let q : refused (number_of e) (place_of e) ≡ refused 5 l.number = p.answer ∙ ap (answer_for f c) k in
          record {
            line = l;
            others = ls;
            view = v;
            long = b;
            number = cc;
            place = cc;
            kept = p.buffer ∙ ap (λ (o : Outcome (Option Line)). filled (bytes_for o) before) k;
          }
      go (line l ls h v b k) =
          let q : refused (number_of e) (place_of e) ≡ accepted (found (length l.bytes) l.number (cursor_past f c l)) = p.answer ∙ ap (answer_for f c) k in clash (cc)
