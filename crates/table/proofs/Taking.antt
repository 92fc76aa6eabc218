-- One line more in a table that the buffers hold, by the tests that the code makes.
use Rattle.std.specs.Prelude.{Option as CodeOption, Some, None, Ok, Err}
use Rattle.std.proofs.Common.{◌≡◌, ℕ, ◌<◌, ◌≤◌, List, length, sym, refl, ap, ◌∙◌, subst, arith, le-ltb, lt-ltb}
use mathlib.Core.Option.{Option, none, some}
use Rattle.lines.specs.Bytes.{Bytes}
use Rattle.lines.specs.Buffers.{filled}
use Rattle.table.specs.LineKinds.{header, entry}
use Rattle.table.specs.Tables.{entry_in, new_section, new_entry, Table, with, names, entries, index_of, opened, added, act}
use Rattle.table.specs.Contents.{text_of, section_numbers}
use Rattle.table.specs.Steps.{SectionFound, current_of, SectionPut, EntryPut, Holds, TakesLine}
use Rattle.table.specs.declared.error.Error.TheVariants.{NoSection, TooMany}
use Rattle.table.specs.declared.builder.Builder.{Builder}
use Rattle.table.specs.declared.state.State.{State}
use Rattle.table.proofs.Search.{table_known, table_new}
use Rattle.table.proofs.Puts.{section_held, entry-held}

-- ---- a header

module _ (x : Bytes) (n : ℕ) (b : Builder) where
  module _ (t : Table) (d : Bytes) (e g : List ℕ) (h : Holds t b d e g) where
    -- what was found, in the buffers of the table that is held
    found : (r : CodeOption ℕ) → SectionFound x b.text b.state.sections b.sections r
        → SectionFound x (filled (text_of t.events) d) (length (names t.events)) (filled (section_numbers t.events) e) r
    found r f =
        subst (λ (z : List ℕ). SectionFound x (filled (text_of t.events) d) (length (names t.events)) z r) h.sections_are
        (subst (λ (z : Bytes). SectionFound x z (length (names t.events)) b.sections r) h.text_is
        (subst (λ (z : State). SectionFound x b.text z.sections b.sections r) h.state f))

    counted : b.state.sections ≡ length (names t.events)
    counted = ap (λ (z : State). z.sections) h.state

    index_known : (i : ℕ) → SectionFound x b.text b.state.sections b.sections (Some i) → index_of x (names t.events) ≡ some i
    index_known i f = let p = found (Some i) f in table_known t.events x d e i h.apart p.0 p.1

    index_new : SectionFound x b.text b.state.sections b.sections None → index_of x (names t.events) ≡ none
    index_new f = table_new t.events x d e (found None f)

  -- it goes on with an earlier section
  pub header_known : (i : ℕ) → SectionFound x b.text b.state.sections b.sections (Some i) → (b' : Builder)
      → b'.state ≡ record { text = b.state.text; sections = b.state.sections; entries = b.state.entries; current = Some i }
      → b'.text ≡ b.text → b'.sections ≡ b.sections → b'.entries ≡ b.entries
      → TakesLine (header x) n b (Ok tt) b'
  unfolding act opened
  header_known i f b' s p q r t d e g h = (
    record { events = t.events; current = some i },
    rw (index_known t d e g h i f),
    record {
      apart = h.apart;
      state =
          s
          ∙ ap (λ (z : State). record { text = z.text; sections = z.sections; entries = z.entries; current = Some i }) h.state;
      text_is = p ∙ h.text_is;
      sections_are = q ∙ h.sections_are;
      entries_are = r ∙ h.entries_are;
    },
  )

  module _ (f : SectionFound x b.text b.state.sections b.sections None) (b' : Builder) where
    -- the 65th section
    pub header_many : 64 ≤ b.state.sections → TakesLine (header x) n b (Err (TooMany n)) b'
    unfolding act opened
    header_many m t d e g h =
        rw (index_new t d e g h f, le-ltb (length (names t.events)) 64 (omega (arith, counted t d e g h)))

    -- a new section
    pub header_new : b.state.sections < 64 → SectionPut x b b' → TakesLine (header x) n b (Ok tt) b'
    unfolding act opened
    header_new m p t d e g h = (
      with t (new_section x) (length (names t.events)),
      rw (index_new t d e g h f, lt-ltb (length (names t.events)) 64 (omega (arith, counted t d e g h))),
      section_held t d e g x (index_new t d e g h f) b b' h p,
    )

-- ---- an entry

-- what the section that is open says of the table
open_in : (o : Option ℕ) (i : ℕ) → current_of o ≡ Some i → o ≡ some i
open_in none i q = cc
open_in (some j) i q = cc

open_out : (o : Option ℕ) → current_of o ≡ None → o ≡ none
open_out none q = refl
open_out (some j) q = cc

module _ (k v : Bytes) (n : ℕ) (b b' : Builder) where
  -- before any header
  pub entry_outside : b.state.current ≡ None → TakesLine (entry k v) n b (Err (NoSection n)) b'
  unfolding act added
  entry_outside q t d e g h =
      let o : t.current ≡ none = open_out t.current (sym (ap (λ (z : State). z.current) h.state) ∙ q) in
      rw o

  module _ (i : ℕ) (q : b.state.current ≡ Some i) where
    inside : (t : Table) (d : Bytes) (e g : List ℕ) → Holds t b d e g → t.current ≡ some i
    inside t d e g h = open_in t.current i (sym (ap (λ (z : State). z.current) h.state) ∙ q)

    -- the 513th
    pub entry_many : 512 ≤ b.state.entries → TakesLine (entry k v) n b (Err (TooMany n)) b'
    unfolding act added
    entry_many m t d e g h =
        let c : b.state.entries ≡ length (entries t.events) = ap (λ (z : State). z.entries) h.state in
        rw (inside t d e g h, le-ltb (length (entries t.events)) 512 (omega arith))

    -- one more
    pub entry_new : b.state.entries < 512 → b.state.text ≤ length b.text → EntryPut i k v b b' → TakesLine (entry k v) n b (Ok tt) b'
    unfolding act added
    entry_new m l p t d e g h =
        let c : b.state.entries ≡ length (entries t.events) = ap (λ (z : State). z.entries) h.state in (
          with t (new_entry (entry_in i k v)) i,
          rw (inside t d e g h, lt-ltb (length (entries t.events)) 512 (omega arith)),
          entry-held t d e g i k v (inside t d e g h) b b' h l p,
        )
