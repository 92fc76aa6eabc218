-- The sections of a file said once more, from its logical lines alone: no table, and no index.
use Rattle.std.specs.Prelude.{Bool, false, ◌||◌, cond, List, [], ◌∷◌, ◌++◌}
use Rattle.lines.specs.Bytes.{Bytes, equal}
use Rattle.lines.specs.Trim.{trimmed}
use Rattle.lines.specs.Lines.{Line}
use Rattle.table.specs.LineKinds.{Kind, empty, header, entry, fault, kind}
use Rattle.normal_text.specs.Sections.{Pair, Section}

-- ---- names of sections

-- a header's name in front of those behind it
unfoldable pub with_name : Kind → List Bytes → List Bytes
with_name empty xs = xs
with_name (header x) xs = x ∷ xs
with_name (entry k v) xs = xs
with_name (fault n) xs = xs

-- the names of all headers among lines, in order
unfoldable pub header_names : List Line → List Bytes
unfolding with_name kind trimmed
header_names [] = []
header_names (l ∷ ls) = with_name (kind (trimmed l.bytes)) (header_names ls)

-- one of the names is x
unfoldable pub is_among : Bytes → List Bytes → Bool
unfolding equal
is_among x [] = false
is_among x (y ∷ ys) = equal x y || is_among x ys

-- each name once, in order of first appearance; those that were seen before are left out
unfoldable pub each_once : (seen : List Bytes) → List Bytes → List Bytes
unfolding is_among
each_once seen [] = []
each_once seen (x ∷ xs) = cond (is_among x seen) (each_once seen xs) (x ∷ each_once (seen ++ x ∷ []) xs)

-- ---- entries

-- a pair of key and value, and the name of the header that it stands under
pub record Headed : Type 0 where
  pub header : Bytes
  pub pair : Pair

-- what a line of this kind brings, under the header x, in front of what comes behind it; a header is that of what comes
unfoldable pub under : (x : Bytes) → Kind → (Bytes → List Headed) → List Headed
under x empty rest = rest x
under x (header y) rest = rest y
under x (entry k v) rest = record { header = x; pair = record { key = k; value = v } } ∷ rest x
under x (fault n) rest = rest x

-- the entries among lines, in order, each with the name of the last header before it; x is that of the header before the
-- first line
unfoldable pub headed : (x : Bytes) → List Line → List Headed
unfolding under kind trimmed
headed x [] = []
headed x (l ∷ ls) = under x (kind (trimmed l.bytes)) (λ y. headed y ls)

-- the pairs that stand under a header with this name
unfoldable pub pairs_under : (x : Bytes) → List Headed → List Pair
unfolding equal
pairs_under x [] = []
pairs_under x (h ∷ hs) = cond (equal h.header x) (h.pair ∷ pairs_under x hs) (pairs_under x hs)

-- ---- sections

-- names, each with the pairs under all headers of that name
unfoldable pub sections_under : List Bytes → List Headed → List (Section Pair)
unfolding pairs_under
sections_under [] hs = []
sections_under (x ∷ xs) hs = record { name = x; entries = pairs_under x hs } ∷ sections_under xs hs

-- the sections of logical lines, of which the first entry has a header before it
unfoldable pub sections_of_lines : List Line → List (Section Pair)
unfolding sections_under each_once header_names headed
sections_of_lines ls = sections_under (each_once [] (header_names ls)) (headed [] ls)
