-- What the code takes from records: the parts of the text as it cuts them; and what the records of a table say, and have.
use mathlib.Core.Path.{◌≡◌, ap, ap₂, ◌∙◌}
use Prim.Native.Nat.{ℕ, suc, ◌+◌, ◌-◌, ◌*◌, ◌<◌}
use native.Mathlib.Omega.{arith}
use mathlib.Core.Option.{some}
use mathlib.Core.List.{List, [], ◌∷◌}
use lib.ListN.{take, drop}
use lib.Seq.{drop-cons}
use Rattle.lines.specs.Bytes.{Bytes}
use Rattle.table.specs.Tables.{Entry}
use Rattle.lookup.specs.Decoding.{part, Lent, Decoded, table_in}
use Rattle.lookup.specs.Laws.{Sound}
use Rattle.lookup.proofs.Laws.{tables_are_sound, counts_are_kept}
use Rattle.lookup.proofs.Decoded.{name_facts, entry_facts, table_halves}
use Rattle.lookup.specs.Steps.{entry_of}
use Rattle.normal_text.specs.Sections.{pair_of, sections_from}
use Rattle.normal_text.specs.Steps.{name_at, names_at, entries_said, sections_said}
use Rattle.normal_text.proofs.Listed.{is_listed}

-- a part as a slice has it
pub part_cut : (text : Bytes) (a n : ℕ) → take ((a + n) - a) (drop a text) ≡ part text a n
part_cut text a n =
    let z : (a + n) - a ≡ n = omega arith in
    ap (λ (m : ℕ). take m (drop a text)) z

-- ---- the records of a table

module _ (b : Lent) (t : Decoded) (e : table_in b ≡ some t) where
  pub sound : Sound b
  sound = (tables_are_sound b).0 t e

  name_here : (j : ℕ) → j < b.section_count → drop j t.names ≡ name_at b.text b.section_numbers (2 * j) ∷ drop (suc j) t.names
  name_here j h =
      drop-cons t.names j [] (omega (arith, (counts_are_kept b t e).0))
      ∙ ap (λ (x : Bytes). x ∷ drop (suc j) t.names)
      (name_facts b.section_count b.section_numbers b.text t.names (table_halves b t e).names j h).name

  names_are : names_at b.text b.section_numbers b.section_count ≡ t.names
  names_are = is_listed (λ j. name_at b.text b.section_numbers (2 * j)) b.section_count t.names (counts_are_kept b t e).0 name_here

  entries_are : entries_said b ≡ t.entries
  entries_are =
      is_listed (λ i. entry_of b.text b.entry_numbers (5 * i)) b.entry_count t.entries (counts_are_kept b t e).1
      (λ i h. (entry_facts b.entry_count b.entry_numbers b.text b.section_count t.entries (table_halves b t e).entries i h).here)

  -- they say its sections
  pub sections_told : sections_said b ≡ sections_from pair_of 0 t.names t.entries
  sections_told = ap₂ (λ (xs : List Bytes) (es : List Entry). sections_from pair_of 0 xs es) names_are entries_are
