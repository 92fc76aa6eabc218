-- The next line of a file, from what `next_line` promises: it goes into the table, no line is left, or it is refused.
use Rattle.std.specs.Prelude.{Ok, Err, Result, Some}
use Rattle.std.proofs.Common.{◌≡◌, ℕ, ◌+◌, ◌<◌, ◌≤◌, List, [], ◌∷◌, length, take, refl, ap, ◌∙◌, subst, arith, length-take, le-ltb, lt-ltb}
use Rattle.lines.specs.Bytes.{Bytes}
use Rattle.lines.specs.Lines.{Line}
use Rattle.lines.specs.Trim.{trimmed}
use Rattle.lines.specs.Answers.{accepted, refused}
use Rattle.lines.specs.Cursors.{logical_from}
use Rattle.lines.specs.Laws.{FoundLine, LongLine}
use Rattle.lines.specs.declared.error.Error.{Error as FileError}
use Rattle.lines.specs.declared.joiner.Cursor.{Cursor}
use Rattle.lines.proofs.Buffers.{take-filled}
use Rattle.table.specs.LineKinds.{kind}
use Rattle.table.specs.Tables.{Table, act, step, and_then, run}
use Rattle.table.specs.Answers.{error_means}
use Rattle.table.specs.Steps.{LineTaken, TakesLine, ReadsLine}
use Rattle.table.specs.declared.error.Error.{Error}
use Rattle.table.specs.declared.error.Error.TheVariants.{File}
use Rattle.table.specs.declared.builder.Builder.{Builder}

-- ---- one line before others

-- a line of at most 4,096 bytes does what its kind does
short_step : (t : Table) (l : Line) → length l.bytes ≤ 4096 → step t l ≡ act l.number t (kind (trimmed l.bytes))
unfolding step
short_step t l h = rw (le-ltb 4096 (length l.bytes) h)

long_step : (t : Table) (l : Line) → 4096 < length l.bytes → step t l ≡ refused 5 l.number
unfolding step
long_step t l h = rw (lt-ltb 4096 (length l.bytes) h)

pub run_nil : (t : Table) → run t [] ≡ accepted t
unfolding run
run_nil t = refl

pub run_more : (t u : Table) (l : Line) (ls : List Line) → step t l ≡ accepted u → run t (l ∷ ls) ≡ run u ls
unfolding run and_then
run_more t u l ls e = rw e

run_stops : (t : Table) (l : Line) (ls : List Line) (n p : ℕ) → step t l ≡ refused n p → run t (l ∷ ls) ≡ refused n p
unfolding run and_then
run_stops t l ls n p e = rw e

-- ---- what the call for the next line answers

-- the line that was found; the part of the line buffer is the line, and fits where the bytes of the file did
module _ (f : Bytes) (c : Cursor) (before after : Bytes) (n m : ℕ) (q : Cursor) (l : FoundLine f c before after n m q) where
  part : take n after ≡ l.line.bytes
  part = ap (take n) l.buffer ∙ rw (← l.length_is) (take-filled l.line.bytes before)

  pub part-fits : (used size : ℕ) → used ≤ c.offset → length f ≤ size → used + length (take n after) ≤ size
  part-fits used size h k = omega (arith, length-take n after, l.shorter, l.inside)

  one_step : (t : Table) → step t l.line ≡ act m t (kind (trimmed (take n after)))
  one_step t = short_step t l.line (omega (arith, l.fits, l.length_is)) ∙ rw (part, l.number_is)

  module _ (b : Builder) (r : Result (Unit {0}) Error) (b' : Builder) (k : TakesLine (kind (trimmed (take n after))) m b r b') where
    pub line_goes : r ≡ Ok tt → ReadsLine f c b (Ok (Some q)) b'
    line_goes e t d g a h =
        let x : LineTaken (act m t (kind (trimmed (take n after)))) d g a (Ok tt) b' =
        subst (λ (z : Result (Unit {0}) Error). LineTaken (act m t (kind (trimmed (take n after)))) d g a z b') e (k t d g a h) in
        record {
          line = l.line;
          view = l.view;
          table = x.0;
          outcome = one_step t ∙ x.1;
          holds = x.2;
          inside = l.inside;
          later = l.later;
          shorter = omega (arith, l.shorter, l.length_is);
        }

    pub line_stops : (w : Error) → r ≡ Err w → ReadsLine f c b (Err w) b'
    line_stops w e t d g a h =
        let x : act m t (kind (trimmed (take n after))) ≡ error_means w =
        subst (λ (z : Result (Unit {0}) Error). LineTaken (act m t (kind (trimmed (take n after)))) d g a z b') e (k t d g a h) in
        ap (run t) l.view ∙ run_stops t l.line (logical_from f q) _ _ (one_step t ∙ x)

pub long_line : (f : Bytes) (c : Cursor) (before after : Bytes) (w : FileError) → LongLine f c before after w
    → (b b' : Builder) → ReadsLine f c b (Err (File w)) b'
long_line f c before after w l b b' t d g a h =
    ap (run t) l.view ∙ run_stops t l.line l.others 5 l.line.number (long_step t l.line l.long)
    ∙ rw (l.number, l.place)
