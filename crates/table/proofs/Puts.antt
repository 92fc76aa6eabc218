-- One event more in the buffers: its text behind the text, its record behind the records, and its counts.
use Rattle.std.specs.Prelude.{Option as CodeOption, Some}
use Rattle.std.proofs.Common.{◌≡◌, ℕ, ◌+◌, ◌*◌, ◌≤◌, List, [], ◌∷◌, ◌++◌, length, refl, sym, ap, ◌∙◌, append-nil, zero-add, arith, length-append}
use mathlib.Core.Option.{none, some}
use Rattle.lines.specs.Bytes.{Bytes}
use Rattle.lines.specs.Buffers.{filled, put}
use Rattle.lines.proofs.Buffers.{filled_put, put-put}
use Rattle.table.specs.Tables.{entry_in, Event, new_section, new_entry, Table, with, names, entries, index_of}
use Rattle.table.specs.Contents.{event_text, text_of, section_record, entry_record, records_from, section_numbers, entry_numbers}
use Rattle.table.specs.Steps.{current_of, state_of, SectionPut, EntryPut, Holds}
use Rattle.table.specs.declared.builder.Builder.{Builder}
use Rattle.table.specs.declared.state.State.{State}
use Rattle.table.proofs.Events.{names_section, names-entry, entries_section, entries-entry, text_of_snoc, text_length, records_snoc, sections_length, entries-length}
use Rattle.table.proofs.TableLaws.{apart_snoc}

-- ---- any event

module _ (es : List Event) (v : Event) where
  text_more : (d : Bytes) → put (filled (text_of es) d) (length (text_of es)) (event_text v) ≡ filled (text_of (es ++ v ∷ [])) d
  text_more d = filled_put (text_of es) (event_text v) d ∙ ap (λ (l : Bytes). filled l d) (sym (text_of_snoc es v))

  module _ (f : ℕ → Event → List ℕ) where
    records_more : records_from f 0 (es ++ v ∷ []) ≡ records_from f 0 es ++ f (length (text_of es)) v
    records_more = records_snoc f 0 es v ∙ ap (λ (a : ℕ). records_from f 0 es ++ f a v) (zero-add _)

    numbers_more : (e : List ℕ) (n : ℕ) → n ≡ length (records_from f 0 es)
        → put (filled (records_from f 0 es) e) n (f (length (text_of es)) v) ≡ filled (records_from f 0 (es ++ v ∷ [])) e
    numbers_more e n q =
        ap (λ (i : ℕ). put (filled (records_from f 0 es) e) i (f (length (text_of es)) v)) q
        ∙ filled_put (records_from f 0 es) (f (length (text_of es)) v) e
        ∙ ap (λ (l : List ℕ). filled l e) (sym records_more)

    -- an event that has no such record
    pub numbers_kept : f (length (text_of es)) v ≡ [] → records_from f 0 (es ++ v ∷ []) ≡ records_from f 0 es
    numbers_kept q = records_more ∙ rw q (append-nil (records_from f 0 es))

-- counts that are the same
pub same_counts : (a a' b b' n n' : ℕ) (c c' : CodeOption ℕ) → a ≡ a' → b ≡ b' → n ≡ n' → c ≡ c'
    → ◌≡◌ {A = State} (record { text = a; sections = b; entries = n; current = c }) (record { text = a'; sections = b'; entries = n'; current = c' })
same_counts a a' b b' n n' c c' p q r s = rw (p, q, r, s)

-- ---- a section

module _ (t : Table) (d : Bytes) (e g : List ℕ) (x : Bytes) (new : index_of x (names t.events) ≡ none) where
  section_state : record {
    text = length (text_of t.events) + length x;
    sections = length (names t.events) + 1;
    entries = length (entries t.events);
    current = Some (length (names t.events));
  } ≡ state_of (with t (new_section x) (length (names t.events)))
  section_state =
      same_counts _ _ _ _ _ _ _ _
      (sym (text_length t.events (new_section x)))
      (sym (ap length (names_section t.events x) ∙ length-append (names t.events) (x ∷ [])))
      (sym (ap length (entries_section t.events x)))
      refl

  pub section_held : (b b' : Builder) → Holds t b d e g → SectionPut x b b'
      → Holds (with t (new_section x) (length (names t.events))) b' d e g
  section_held b b' h p =
      record {
        apart = rw names_section (apart_snoc (names t.events) [] x h.apart new);
        state =
            p.state
            ∙ ap (λ (z : State). record { text = z.text + length x; sections = z.sections + 1; entries = z.entries; current = Some z.sections }) h.state
            ∙ section_state;
        text_is =
            p.text_put ∙ ap (λ (z : Bytes). put z b.state.text x) h.text_is
            ∙ ap (λ (z : State). put (filled (text_of t.events) d) z.text x) h.state
            ∙ text_more t.events (new_section x) d;
        sections_are =
            p.numbers_put
            ∙ ap (λ (z : List ℕ). put z (2 * b.state.sections) (b.state.text ∷ length x ∷ [])) h.sections_are
            ∙ ap (λ (z : State). put (filled (section_numbers t.events) e) (2 * z.sections) (z.text ∷ length x ∷ [])) h.state
            ∙ numbers_more t.events (new_section x) section_record e _ (sym (sections_length 0 t.events));
        entries_are =
            p.entries_kept ∙ h.entries_are ∙ ap (λ (z : List ℕ). filled z g) (sym (numbers_kept t.events (new_section x) entry_record refl));
      }

-- ---- an entry

module _ (t : Table) (d : Bytes) (e g : List ℕ) (i : ℕ) (k v : Bytes) (o : t.current ≡ some i) where
  entry_state : record {
    text = length (text_of t.events) + length k + length v;
    sections = length (names t.events);
    entries = length (entries t.events) + 1;
    current = current_of t.current;
  } ≡ state_of (with t (new_entry (entry_in i k v)) i)
  entry_state =
      same_counts _ _ _ _ _ _ _ _
      (omega (arith, text_length t.events (new_entry (entry_in i k v)), length-append k v))
      (sym (ap length (names-entry t.events (entry_in i k v))))
      (sym (ap length (entries-entry t.events (entry_in i k v)) ∙ length-append (entries t.events) (entry_in i k v ∷ [])))
      (ap current_of o)

  pub entry-held : (b b' : Builder) → Holds t b d e g → b.state.text ≤ length b.text → EntryPut i k v b b'
      → Holds (with t (new_entry (entry_in i k v)) i) b' d e g
  entry-held b b' h l p =
      record {
        apart = rw names-entry h.apart;
        state =
            p.state
            ∙ ap (λ (z : State). record { text = z.text + length k + length v; sections = z.sections; entries = z.entries + 1; current = z.current }) h.state
            ∙ entry_state;
        text_is =
            p.text_put ∙ put-put b.text b.state.text k v l
            ∙ ap (λ (z : Bytes). put z b.state.text (k ++ v)) h.text_is
            ∙ ap (λ (z : State). put (filled (text_of t.events) d) z.text (k ++ v)) h.state
            ∙ text_more t.events (new_entry (entry_in i k v)) d;
        sections_are =
            p.sections_kept ∙ h.sections_are
            ∙ ap (λ (z : List ℕ). filled z e) (sym (numbers_kept t.events (new_entry (entry_in i k v)) section_record refl));
        entries_are =
            p.numbers_put
            ∙ ap (λ (z : List ℕ). put z (5 * b.state.entries) (i ∷ b.state.text ∷ length k ∷ (b.state.text + length k) ∷ length v ∷ [])) h.entries_are
            ∙ ap (λ (z : State). put (filled (entry_numbers t.events) g) (5 * z.entries) (i ∷ z.text ∷ length k ∷ (z.text + length k) ∷ length v ∷ [])) h.state
            ∙ numbers_more t.events (new_entry (entry_in i k v)) entry_record g _ (sym (entries-length 0 t.events));
      }
