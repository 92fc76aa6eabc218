-- A call of `read`, by its answer: each refusal, and the table that was read and copied.
use Rattle.std.specs.Prelude.{Ok, Err, Result}
use Rattle.std.proofs.Common.{◌≡◌, ℕ, ◌+◌, ◌-◌, ◌*◌, ◌<◌, ◌≤◌, cond, ltb, leb, List, length, take, sym, refl, ap, ◌∙◌, subst, arith, ltb-false, ltb-true, le-ltb, lt-ltb, ◌⊎◌, inl, inr}
use Rattle.lines.specs.Bytes.{Bytes}
use Rattle.lines.specs.Lines.{logical}
use Rattle.lines.specs.Answers.{Outcome, accepted, refused}
use Rattle.lines.specs.Answers as file
use Rattle.lines.specs.Files.{size, checked_file}
use Rattle.lines.specs.Buffers.{put}
use Rattle.lines.specs.declared.error.Error.{Error as FileError}
use Rattle.lines.specs.declared.error.Error.TheVariants.{ShortBuffer}
use Rattle.lines.proofs.Bools.{by_cases}
use Rattle.lines.proofs.Buffers.{front_copied}
use Rattle.lines.proofs.FileLaws.{size_over}
use Rattle.lines.proofs.Laws.{checked_is_sound}
use Rattle.table.specs.Tables.{Table, empty_table, names, and_then, run, verdict}
use Rattle.table.specs.Tables as tables
use Rattle.table.specs.Contents.{text_of, section_numbers, entry_numbers}
use Rattle.table.specs.Answers.{number_of, place_of, error_means, counts_of, counted, text_after, sections_after, entries_after, TableLeft, ReadLeaves, read_in, Reads}
use Rattle.table.specs.Steps.{counts_in, AllRead}
use Rattle.table.specs.declared.builder.Builder.{Builder}
use Rattle.table.specs.declared.error.Error.{Error}
use Rattle.table.specs.declared.error.Error.TheVariants.{File}
use Rattle.table.specs.declared.state.Counts.{Counts}
use Rattle.table.proofs.Events.{sections_length, entries-length}

-- ---- a refusal leaves the lent buffers as they were

pub table_kept : (o : Outcome Table) (n p : ℕ) → o ≡ refused n p → (text : Bytes) (sections entries : List ℕ)
    → TableLeft o text sections entries text sections entries
table_kept o n p e text sections entries =
    subst (λ (x : Outcome Table). TableLeft x text sections entries text sections entries) (sym e)
    (record { new_text = refl; new_sections = refl; new_entries = refl })

pub leaves_refused : (o : Outcome Table) (k : Error) → o ≡ error_means k → (text : Bytes) (sections entries : List ℕ)
    → ReadLeaves o text sections entries (Err k) text sections entries
leaves_refused o k f text sections entries =
    record {
      answer = sym (ap counted f);
      left = table_kept o (number_of k) (place_of k) f text sections entries;
    }

-- ---- by way of buffers of its own

module _ (o : Outcome Table) (d : Bytes) (e g : List ℕ) (m : Builder) (h : AllRead o d e g m) (k : Counts) (q : k ≡ counts_in m.state) where
  -- the counts are those of the table
  counts_are : counts_of h.table ≡ k
  counts_are = sym (q ∙ ap counts_in h.holds.state)

  text_count : k.text ≡ length (text_of h.table.events)
  text_count = ap (λ (z : Counts). z.text) (sym counts_are)

  section_count_lem : k.sections ≡ length (names h.table.events)
  section_count_lem = ap (λ (z : Counts). z.sections) (sym counts_are)

  entry_count_lem : k.entries ≡ length (tables.entries h.table.events)
  entry_count_lem = ap (λ (z : Counts). z.entries) (sym counts_are)

  -- what is copied fits
  pub counts_fit : (k.text ≤ 65535) × (2 * k.sections ≤ 128) × (5 * k.entries ≤ 2560)
  counts_fit =
      (omega (arith, text_count, h.sized.text), omega (arith, section_count_lem, h.sized.few_sections), omega (arith, entry_count_lem, h.sized.few_entries))

  -- what was read is copied
  pub apart_copied : (a a' : Bytes) (b b' c c' : List ℕ) → 65535 ≤ length a → 128 ≤ length b → 2560 ≤ length c
      → a' ≡ cond (leb (0 + length (take k.text m.text)) (length a)) (put a 0 (take k.text m.text)) a
      → b' ≡ cond (leb (0 + length (take (2 * k.sections) m.sections)) (length b)) (put b 0 (take (2 * k.sections) m.sections)) b
      → c' ≡ cond (leb (0 + length (take (5 * k.entries) m.entries)) (length c)) (put c 0 (take (5 * k.entries) m.entries)) c
      → ReadLeaves o a b c (Ok k) a' b' c'
  apart_copied a a' b b' c c' la lb lc pa pb pc =
      let u : k.text - 0 ≡ k.text = omega arith in
      let v : 2 * k.sections - 0 ≡ 2 * k.sections = omega arith in
      let w : 5 * k.entries - 0 ≡ 5 * k.entries = omega arith in
      let x : 2 * k.sections ≡ length (section_numbers h.table.events) = omega (arith, section_count_lem, sections_length 0 h.table.events) in
      let y : 5 * k.entries ≡ length (entry_numbers h.table.events) = omega (arith, entry_count_lem, entries-length 0 h.table.events) in
      record {
        answer = sym (ap counted h.outcome ∙ ap accepted counts_are);
        left = record {
          new_text =
              front_copied (text_of h.table.events) d m.text a a' k.text h.holds.text_is text_count (omega (arith, counts_fit.0)) (rw u pa)
              ∙ sym (ap (λ (z : Outcome Table). text_after z a) h.outcome);
          new_sections =
              front_copied (section_numbers h.table.events) e m.sections b b' (2 * k.sections) h.holds.sections_are x (omega (arith, counts_fit.1)) (rw v pb)
              ∙ sym (ap (λ (z : Outcome Table). sections_after z b) h.outcome);
          new_entries =
              front_copied (entry_numbers h.table.events) g m.entries c c' (5 * k.entries) h.holds.entries_are y (omega (arith, counts_fit.2)) (rw w pc)
              ∙ sym (ap (λ (z : Outcome Table). entries_after z c) h.outcome);
        };
      }

-- ---- the whole file

-- a file that is accepted before its lines are read is short
pub checked_short : (f : Bytes) → accepted tt ≡ checked_file f → length f ≤ 65535
checked_short f h =
    let s = checked_is_sound f (sym h) in
    by_cases (ltb 65535 (length f))
    (λ e. let l = ltb-true 65535 (size f) (size_over 65535 f (ltb-true 65535 (length f) e)) in absurd (omega (arith, l, s.short)))
    (λ e. omega (arith, ltb-false 65535 (length f) e))

-- with enough space, the file alone decides
pub enough_space : (a b c : ℕ) (f : Bytes) → 65535 ≤ a → 128 ≤ b → 2560 ≤ c → read_in a b c f ≡ verdict f
unfolding read_in
enough_space a b c f ha hb hc = rw (le-ltb a 65535 ha, le-ltb b 128 hb, le-ltb c 2560 hc)

module _ (f text : Bytes) (sections entries : List ℕ) where
  short : read_in (length text) (length sections) (length entries) f ≡ refused 1 0
      → Reads f text sections entries (Err (File ShortBuffer)) text sections entries
  short e = leaves_refused _ (File ShortBuffer) e text sections entries

  -- a short buffer
  pub short_buffers : length text < 65535
      ⊎ ((65535 ≤ length text) × (length sections < 128) ⊎ (65535 ≤ length text) × (128 ≤ length sections) × (length entries < 2560))
      → Reads f text sections entries (Err (File ShortBuffer)) text sections entries
  unfolding read_in
  short_buffers (inl h) = short (rw (lt-ltb (length text) 65535 h))
  short_buffers (inr (inl h)) = short (rw (le-ltb (length text) 65535 h.0, lt-ltb (length sections) 128 h.1))
  short_buffers (inr (inr h)) =
      short (rw (le-ltb (length text) 65535 h.0, le-ltb (length sections) 128 h.1, lt-ltb (length entries) 2560 h.2))

  module _ (ht : 65535 ≤ length text) (hs : 128 ≤ length sections) (he : 2560 ≤ length entries) where
    enough : read_in (length text) (length sections) (length entries) f ≡ verdict f
    enough = enough_space (length text) (length sections) (length entries) f ht hs he

    pub file_refused : (k : FileError) → file.error_means k ≡ checked_file f → Reads f text sections entries (Err (File k)) text sections entries
    unfolding verdict and_then
    file_refused k m = leaves_refused _ (File k) (enough ∙ rw (← m)) text sections entries

    pub file_read : accepted tt ≡ checked_file f → (r : Result Counts Error) (text' : Bytes) (sections' entries' : List ℕ)
        → ReadLeaves (run empty_table (logical f)) text sections entries r text' sections' entries'
        → Reads f text sections entries r text' sections' entries'
    unfolding verdict and_then
    file_read m r text' sections' entries' h =
        let v : read_in (length text) (length sections) (length entries) f ≡ run empty_table (logical f) = enough ∙ rw (← m) in
        subst (λ (z : Outcome Table). ReadLeaves z text sections entries r text' sections' entries') (sym v) h
