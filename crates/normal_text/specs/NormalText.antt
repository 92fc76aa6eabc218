-- The normal text of sections with their entries. A header is the rules' heading, a value their joined text.
use Rattle.std.specs.Prelude.{cond, List, [], ◌∷◌, ◌++◌}
use Rattle.lines.specs.Bytes.{Bytes}
use Rattle.lines.specs.Lines.{continued, written}
use Rattle.normal_text.specs.Sections.{Pair, Section}

-- a section's line: [, name, ]
unfoldable pub header_line : Bytes → Bytes
header_line x = 0x5B ∷ x ++ 0x5D ∷ []

-- a value that ends in an odd run of backslashes gets one space
unfoldable pub padded : Bytes → Bytes
unfolding continued
padded v = cond (continued v) (v ++ 0x20 ∷ []) v

-- an entry's line: key, =, value
unfoldable pub entry_line : Pair → Bytes
unfolding padded
entry_line p = p.key ++ 0x3D ∷ padded p.value

-- one for each entry
unfoldable pub entry_lines : List Pair → List Bytes
unfolding entry_line
entry_lines [] = []
entry_lines (p ∷ ps) = entry_line p ∷ entry_lines ps

-- each section's line, then those of its entries
unfoldable pub normal_lines : List (Section Pair) → List Bytes
unfolding header_line entry_lines
normal_lines [] = []
normal_lines (s ∷ ss) = header_line s.name ∷ (entry_lines s.entries ++ normal_lines ss)

-- the lines, each with its LF, and nothing else
unfoldable pub normal_text : List (Section Pair) → Bytes
unfolding normal_lines written
normal_text ss = written (normal_lines ss)
