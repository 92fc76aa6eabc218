-- What the functions inside the crate promise. No public promise cites this file.
use Rattle.std.specs.Prelude as prelude
use Rattle.std.specs.Prelude.{MatchOption, ◌≡◌, ℕ, ◌+◌, ◌*◌, ◌≤◌, ◌<◌, Bool, true, false, ◌&&◌, List, length, get_or, ltb}
use Rattle.std.proofs.Math.Option.{Option, none, some}
use Rattle.lines.specs.Bytes.{Bytes, equal}
use Rattle.table.specs.Tables.{Entry, entry_in}
use Rattle.lookup.specs.Decoding.{part, inside, Lent}
use Rattle.lookup.specs.declared.search.Which.{Which}
use Rattle.lookup.specs.declared.search.Which.TheVariants.{First, Last}

-- ---- records

-- something is there
abbrev pub there : {A : Type 0} → Option A → Bool
there none = false
there (some x) = true

-- the entry's record from an index on is not faulty
abbrev pub good_entry : Bytes → (m : ℕ) → List ℕ → (at : ℕ) → Bool
good_entry text m ns at =
    ltb (get_or ns at 0) m
    && (inside text (get_or ns (at + 1) 0) (get_or ns (at + 2) 0) && inside text (get_or ns (at + 3) 0) (get_or ns (at + 4) 0))

-- the section with an index has a record that is not faulty
unfoldable pub good_section : Lent → (j : ℕ) → Bool
good_section b j = inside b.text (get_or b.section_numbers (2 * j) 0) (get_or b.section_numbers (2 * j + 1) 0)

-- the same of an entry
unfoldable pub good_record : Lent → (i : ℕ) → Bool
good_record b i = good_entry b.text b.section_count b.entry_numbers (5 * i)

-- the records of all sections are there, and none is faulty
abbrev pub SectionsGood : Lent → Type 0
SectionsGood b = (2 * b.section_count ≤ length b.section_numbers) × ((j : ℕ) → j < b.section_count → good_section b j ≡ true)

-- the same of all entries
abbrev pub EntriesGood : Lent → Type 0
EntriesGood b = (5 * b.entry_count ≤ length b.entry_numbers) × ((i : ℕ) → i < b.entry_count → good_record b i ≡ true)

-- what it says
abbrev pub entry_of : Bytes → List ℕ → (at : ℕ) → Entry
entry_of text ns at =
    entry_in (get_or ns at 0) (part text (get_or ns (at + 1) 0) (get_or ns (at + 2) 0)) (part text (get_or ns (at + 3) 0) (get_or ns (at + 4) 0))

-- ---- search

-- the entry's record from an index on is of a section named x, and has the key k
abbrev pub matches_at : (x k text : Bytes) (sections entries : List ℕ) (at : ℕ) → Bool
matches_at x k text sections entries at =
    equal x (part text (get_or sections (2 * get_or entries at 0) 0) (get_or sections (2 * get_or entries at 0 + 1) 0))
    && equal k (part text (get_or entries (at + 1) 0) (get_or entries (at + 2) 0))

-- the entry with an index is of a section named x, and has the key k
unfoldable pub matches : Lent → (x k : Bytes) (i : ℕ) → Bool
matches b x k i = matches_at x k b.text b.section_numbers b.entry_numbers (5 * i)

-- r is the first of n indexes that passes a test, if one does
abbrev pub IsFirst : (n : ℕ) (test : ℕ → Bool) (r : prelude.Option ℕ) → Type 0
IsFirst n test r =
    MatchOption r ((j : ℕ) → j < n → test j ≡ false)
    (λ i. (i < n) × (test i ≡ true) × ((j : ℕ) → j < i → test j ≡ false))

-- or the last
abbrev pub IsLast : (n : ℕ) (test : ℕ → Bool) (r : prelude.Option ℕ) → Type 0
IsLast n test r =
    MatchOption r ((j : ℕ) → j < n → test j ≡ false)
    (λ i. (i < n) × (test i ≡ true) × ((j : ℕ) → i < j → j < n → test j ≡ false))

-- or the one that is asked for
abbrev pub IsAsked : Which → (n : ℕ) (test : ℕ → Bool) (r : prelude.Option ℕ) → Type 0
IsAsked First = IsFirst
IsAsked Last = IsLast

-- the entry's record from an index on and its section's are there, and its key and its section's name are inside the text
pub record EntryInside (text : Bytes) (sections entries : List ℕ) (at : ℕ) : Type 0 where
  pub there_is : at + 5 ≤ length entries
  pub key : get_or entries (at + 1) 0 + get_or entries (at + 2) 0 ≤ length text
  pub section : 2 * get_or entries at 0 + 2 ≤ length sections
  pub name : get_or sections (2 * get_or entries at 0) 0 + get_or sections (2 * get_or entries at 0 + 1) 0 ≤ length text
