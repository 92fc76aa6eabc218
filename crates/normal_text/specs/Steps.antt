-- What the functions inside the crate promise. No public promise cites this file.
use Rattle.std.specs.Prelude.{Option, None, Some, ◌≡◌, ℕ, zero, suc, ◌+◌, ◌*◌, ◌≤◌, ◌<◌, List, [], ◌∷◌, ◌++◌, length, drop, get_or}
use Rattle.lines.specs.Bytes.{Bytes}
use Rattle.lines.specs.Lines.{written}
use Rattle.table.specs.Tables.{Entry}
use Rattle.lookup.specs.Decoding.{part, Lent}
use Rattle.lookup.specs.Steps.{entry_of}
use Rattle.normal_text.specs.Sections.{Pair, pair_of, Section, of_section, sections_from}
use Rattle.normal_text.specs.NormalText.{entry_lines}
use Rattle.normal_text.specs.declared.links.Links.{Links}

-- ---- the table that good records say

-- the name that the section's record from an index on says
abbrev pub name_at : Bytes → List ℕ → (at : ℕ) → Bytes
name_at text ns at = part text (get_or ns at 0) (get_or ns (at + 1) 0)

-- what f says of so many numbers, from i on
unfoldable pub listed : {A : Type 0} → (f : ℕ → A) → (count i : ℕ) → List A
listed f zero i = []
listed f (suc n) i = f i ∷ listed f n (suc i)

-- the names that so many sections' records say
abbrev pub names_at : Bytes → List ℕ → (count : ℕ) → List Bytes
names_at text ns m = listed (λ j. name_at text ns (2 * j)) m 0

-- the entries that so many entries' records say; `entry_of` is what one says
abbrev pub entries_at : Bytes → List ℕ → (count : ℕ) → List Entry
entries_at text ns k = listed (λ i. entry_of text ns (5 * i)) k 0

-- the entries that the records say of what is lent
abbrev pub entries_said : Lent → List Entry
entries_said b = entries_at b.text b.entry_numbers b.entry_count

-- and the sections, with their entries
abbrev pub sections_said : Lent → List (Section Pair)
sections_said b = sections_from pair_of 0 (names_at b.text b.section_numbers b.section_count) (entries_said b)

-- ---- links: the first entry of a section, and the next one of an entry's section

-- Of the entries from i on, the one with the index `at` is the first of section j: none is passed over.
pub record Leads (es : List Entry) (j i at : ℕ) : Type 0 where
  pub later : i ≤ at
  pub there : at < length es
  pub passed : of_section pair_of j (drop i es) ≡ of_section pair_of j (drop at es)
  pub own : (e : Entry) (rest : List Entry) → drop at es ≡ e ∷ rest → e.section ≡ j

-- so it is where there is one; else none of them is of section j
abbrev pub LeadsTo : (es : List Entry) (j i : ℕ) → Option ℕ → Type 0
LeadsTo es j i None = of_section pair_of j (drop i es) ≡ []
LeadsTo es j i (Some at) = Leads es j i at

-- the links of all sections lead from entry i on, and so do those of the entries from i on
pub record Linked (es : List Entry) (i : ℕ) (firsts nexts : List (Option ℕ)) : Type 0 where
  pub first : (j : ℕ) → j < length firsts → LeadsTo es j i (get_or firsts j None)
  pub next : (n : ℕ) → i ≤ n → (e : Entry) (rest : List Entry) → drop n es ≡ e ∷ rest → LeadsTo es e.section (suc n) (get_or nexts n None)

-- all entries are linked
pub record AreLinks (b : Lent) (l : Links) : Type 0 where
  pub first_count : length l.firsts ≡ 64
  pub next_count : length l.nexts ≡ 512
  pub linked : Linked (entries_said b) 0 l.firsts l.nexts

-- ---- what is put into the output buffer

-- a key and a value
abbrev pub pair_with : Bytes → Bytes → Pair
pair_with k v = record { key = k; value = v }

-- a line with its LF
abbrev pub with_lf : Bytes → Bytes
with_lf l = l ++ 0x0A ∷ []

-- the lines of the entries of section j
abbrev pub entries_text : (j : ℕ) → List Entry → Bytes
entries_text j es = written (entry_lines (of_section pair_of j es))
