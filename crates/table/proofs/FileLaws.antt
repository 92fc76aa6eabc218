-- The verdict on a file by its check and its logical lines: a step looks at the number and the bytes of a line, and so
-- the lines may be read without the offsets of their ends.
use Rattle.std.proofs.Common.{◌≡◌, List, [], ◌∷◌, sym, refl, ap, ◌∙◌}
use Rattle.lines.specs.Lines.{Line, logical}
use Rattle.lines.specs.Answers.{Outcome, accepted, refused}
use Rattle.lines.specs.CommentLaws.{without_ends}
use Rattle.table.specs.Tables.{Table, empty_table, step, and_then, run, verdict}
use Rattle.table.specs.FileLaws.{LinesDecide}

run_ends : (ls : List Line) (t : Table) → run t ls ≡ run t (without_ends ls)
unfolding run without_ends step and_then
run_ends [] t = refl
run_ends (l ∷ ls) t = go (step t l) (run_ends ls)
  where
    go : (o : Outcome Table) → ((u : Table) → run u ls ≡ run u (without_ends ls))
        → and_then o (λ u. run u ls) ≡ and_then o (λ u. run u (without_ends ls))
    go (accepted u) ih = ih u
    go (refused n p) ih = refl

pub lines_decide : LinesDecide
unfolding verdict
lines_decide f g c e =
    let r : run empty_table (logical f) ≡ run empty_table (logical g) =
    run_ends (logical f) empty_table ∙ ap (run empty_table) e ∙ sym (run_ends (logical g) empty_table) in
    rw (c, r)
