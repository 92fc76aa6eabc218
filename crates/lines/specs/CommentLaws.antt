-- Comment lines, said in other words: statements, proved in proofs/CommentLaws.antt. What a comment does among other
-- lines stands in Laws (CommentDropped, CommentAnywhere).
use Rattle.std.specs.Prelude.{◌≡◌, ◌≤◌, true, cond, List, [], ◌∷◌, ◌++◌}
use Rattle.std.proofs.Math.Option.{none}
use Rattle.lines.specs.Bytes.{Bytes, blank, all}
use Rattle.lines.specs.Lines.{Line, physical, comment, joined, logical}
use Rattle.lines.specs.Laws.{total}

-- ---- which lines are comments

-- what stands behind a line's LF does not decide whether it is one
abbrev pub LineDecides : Type 0
LineDecides = (l rest : Bytes) → comment (l ++ 0x0A ∷ rest) ≡ comment l

-- a line of blanks alone is none: it stands among the logical lines, or ends the one that is joined
abbrev pub BlanksKept : Type 0
BlanksKept = (l : Line) (ls : List Line) → all blank l.bytes ≡ true → joined (l ∷ ls) ≡ l ∷ joined ls

-- ---- what is joined, and judged for 5

-- lines without the comments among them
unfoldable pub without_comments : List Line → List Line
unfolding comment
without_comments [] = []
without_comments (l ∷ ls) = cond (comment l.bytes) (without_comments ls) (l ∷ without_comments ls)

-- the logical lines of a file are joined from its other lines alone; 5 is judged on these
abbrev pub CommentsApart : Type 0
CommentsApart = (f : Bytes) → logical f ≡ joined (without_comments (physical 1 0 f))

-- so no byte of a comment counts: with one byte each for their LF they are at most the lines that are no comments
abbrev pub CommentsNotCounted : Type 0
CommentsNotCounted = (f : Bytes) → total (logical f) ≤ total (without_comments (physical 1 0 f))

-- ---- lines alone

-- lines without the offsets of their ends
unfoldable pub without_ends : List Line → List Line
without_ends [] = []
without_ends (l ∷ ls) = record { number = l.number; bytes = l.bytes; end = none } ∷ without_ends ls
