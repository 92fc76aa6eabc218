-- Trimming: blanks at both ends go. The layer above trims each logical line, and ignores an empty one; spans are
-- trimmed too.
use Rattle.std.specs.Prelude.{cond, [], ◌∷◌}
use Rattle.lines.specs.Bytes.{Bytes, blank, all}

-- without the blanks at the start
unfoldable pub trim_start : Bytes → Bytes
trim_start [] = []
trim_start (b ∷ bs) = cond (blank b) (trim_start bs) (b ∷ bs)

-- without the blanks at the end
unfoldable pub trim_end : Bytes → Bytes
unfolding all
trim_end [] = []
trim_end (b ∷ bs) = cond (all blank (b ∷ bs)) [] (b ∷ trim_end bs)

-- without both
unfoldable pub trimmed : Bytes → Bytes
unfolding trim_start trim_end
trimmed l = trim_end (trim_start l)
