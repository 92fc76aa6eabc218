-- Lines read one after another. What the loop keeps: the buffers hold a table, and the lines from the cursor on bring
-- to it what all lines bring to the empty one.
use Rattle.std.proofs.Common.{◌≡◌, ◌≤◌, [], length, sym, refl, ap, ◌∙◌, arith}
use Rattle.lines.specs.Bytes.{Bytes}
use Rattle.lines.specs.Lines.{logical}
use Rattle.lines.specs.Cursors.{first_cursor, logical_from}
use Rattle.lines.specs.declared.joiner.Cursor.{Cursor}
use Rattle.lines.proofs.Laws.{reads_all}
use Rattle.table.specs.Tables.{Table, empty_table, names, run}
use Rattle.table.specs.Contents.{text_of, records_from}
use Rattle.table.specs.Answers.{error_means}
use Rattle.table.specs.Laws.{Sized}
use Rattle.table.specs.Steps.{state_of, Holds, LineRead, AllRead}
use Rattle.table.specs.declared.error.Error.{Error}
use Rattle.table.specs.declared.state.State.{State}
use Rattle.table.specs.declared.builder.Builder.{Builder}
use Rattle.table.proofs.Sizes.{step-sized, sized_more, empty_sized}
use Rattle.table.proofs.ReadingLines.{run_nil, run_more}

-- what the loop keeps; a is the table before the first line
pub record Reading (f : Bytes) (a b : Builder) (c : Cursor) : Type 0 where
  pub table : Table
  pub so_far : run empty_table (logical f) ≡ run table (logical_from f c)
  pub holds : Holds table b a.text a.sections a.entries
  pub sized : Sized c.offset table
  pub inside : c.offset ≤ length f

module _ (f : Bytes) (a : Builder) where
  pub reading_start : (c : Cursor) → c ≡ first_cursor → a.state ≡ state_of empty_table → Reading f a a c
  unfolding names text_of records_from
  reading_start c p q =
      record {
        table = empty_table;
        so_far = ap (run empty_table) (sym (ap (logical_from f) p ∙ reads_all f));
        holds = record { apart = tt; state = q; text_is = refl; sections_are = refl; entries_are = refl };
        sized = sized_more 0 c.offset empty_table (omega arith) empty_sized;
        inside = omega (arith, ap (λ (z : Cursor). z.offset) p);
      }

  module _ (b : Builder) (c : Cursor) (r : Reading f a b c) where
    -- there is room for a line
    pub text_below : b.state.text ≤ c.offset
    text_below = omega (arith, ap (λ (z : State). z.text) r.holds.state, r.sized.text)

    module _ (b' : Builder) where
      pub reading_more : (q : Cursor) → LineRead f c r.table a.text a.sections a.entries q b' → Reading f a b' q
      reading_more q l =
          record {
            table = l.table;
            so_far = r.so_far ∙ ap (run r.table) l.view ∙ run_more r.table l.table l.line (logical_from f q) l.outcome;
            holds = l.holds;
            sized = sized_more _ q.offset l.table l.shorter (step-sized c.offset r.table l.table l.line r.sized l.outcome);
            inside = l.inside;
          }

      pub reading_end : (logical_from f c ≡ []) × Holds r.table b' a.text a.sections a.entries → length f ≤ 65535
          → AllRead (run empty_table (logical f)) a.text a.sections a.entries b'
      reading_end l h =
          record {
            table = r.table;
            outcome = r.so_far ∙ ap (run r.table) l.0 ∙ run_nil r.table;
            holds = l.1;
            sized = sized_more c.offset 65535 r.table (omega (arith, r.inside)) r.sized;
          }

      pub reading_refused : (w : Error) → run r.table (logical_from f c) ≡ error_means w → run empty_table (logical f) ≡ error_means w
      reading_refused w q = r.so_far ∙ q
