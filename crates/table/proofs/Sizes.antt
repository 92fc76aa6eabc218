-- How large the table of an accepted file is: each line brings at most its own bytes as text, and the counts are
-- tested before they grow.
use Rattle.std.proofs.Common.{◌≡◌, ℕ, ◌+◌, ◌≤◌, List, [], ◌∷◌, length, ap, arith, length-append}
use Rattle.lines.specs.Bytes.{Bytes}
use Rattle.lines.specs.Lines.{Line, logical}
use Rattle.lines.specs.Files.{size}
use Rattle.lines.specs.Trim.{trimmed}
use Rattle.lines.specs.Answers.{accepted}
use Rattle.lines.specs.Laws.{Sound, total}
use Rattle.lines.proofs.Trimming.{length_trim}
use Rattle.lines.proofs.Laws.{lines_fit}
use Rattle.table.specs.Tables.{Table, empty_table, new_section, new_entry, entry_in, names, entries, step, run, verdict}
use Rattle.table.specs.Contents.{text_of}
use Rattle.table.specs.Laws.{Sized, TableFits}
use Rattle.table.proofs.Events.{names_section, names-entry, entries_section, entries-entry, text_length}
use Rattle.table.proofs.KindLaws.{header_length, entry_length}
use Rattle.table.proofs.Outcomes.{Holds, of_accepted, holds_imp, Kept, step_keeps, step_is_short, run_keeps, verdict_keeps}

-- a larger bound
pub sized_more : (n m : ℕ) (t : Table) → n ≤ m → Sized n t → Sized m t
sized_more n m t h s = record { text = omega (arith, s.text); few_sections = s.few_sections; few_entries = s.few_entries }

-- ---- one line

module _ (n : ℕ) (t : Table) (s : Sized n t) (l : Bytes) where
  step_kept : Kept (Sized (n + length l)) t (trimmed l)
  step_kept = record {
    same = λ z. sized_more n (n + length l) t (omega arith) s;
    again = λ x i h e. record { text = omega (arith, s.text); few_sections = s.few_sections; few_entries = s.few_entries };
    named = λ x h e few. record {
      text = omega (arith, s.text, text_length t.events (new_section x), header_length (trimmed l) x h, length_trim l);
      few_sections = omega (arith, ap length (names_section t.events x), length-append (names t.events) (x ∷ []));
      few_entries = rw entries_section s.few_entries;
    };
    filed = λ k v i h e few. record {
      text = omega (arith, s.text, text_length t.events (new_entry (entry_in i k v)), length-append k v, entry_length (trimmed l) k v h, length_trim l);
      few_sections = rw names-entry s.few_sections;
      few_entries = omega (arith, ap length (entries-entry t.events (entry_in i k v)), length-append (entries t.events) (entry_in i k v ∷ []));
    };
  }

pub step_sizes : (n : ℕ) (t : Table) (l : Line) → Sized n t → Holds (Sized (n + length l.bytes)) (step t l)
step_sizes n t l s = step_keeps (Sized (n + length l.bytes)) t l (step_kept n t s l.bytes)

pub step-sized : (n : ℕ) (t u : Table) (l : Line) → Sized n t → step t l ≡ accepted u → Sized (n + length l.bytes) u
step-sized n t u l s = of_accepted (Sized (n + length l.bytes)) (step t l) u (step_sizes n t l s)

pub step_short : (t u : Table) (l : Line) → step t l ≡ accepted u → length l.bytes ≤ 4096
step_short t u l = of_accepted (λ v. length l.bytes ≤ 4096) (step t l) u (step_is_short t l)

-- ---- all lines

-- so large that the lines ahead still fit below m
abbrev Ahead : ℕ → List Line → Table → Type 0
Ahead m ls t = (n : ℕ) × Sized n t × (n + total ls ≤ m)

ahead_step : (m : ℕ) (l : Line) (ls : List Line) (t : Table) → Ahead m (l ∷ ls) t → Holds (Ahead m ls) (step t l)
unfolding total
ahead_step m l ls t h =
    holds_imp (Sized (h.0 + length l.bytes)) (Ahead m ls) (λ u s. (h.0 + length l.bytes, s, omega (arith, h.2)))
    (step t l) (step_sizes h.0 t l h.1)

-- any bound that the lines' bytes leave
pub run_sizes : (n m : ℕ) (t : Table) (ls : List Line) → n + total ls ≤ m → Sized n t → Holds (Sized m) (run t ls)
run_sizes n m t ls fits s =
    holds_imp (Ahead m []) (Sized m) (λ u h. sized_more h.0 m u (omega (arith, h.2)) h.1)
    (run t ls) (run_keeps (Ahead m) (ahead_step m) ls t (n, s, fits))

pub run-sized : (n : ℕ) (t u : Table) (ls : List Line) → Sized n t → run t ls ≡ accepted u → Sized (n + total ls) u
run-sized n t u ls s = of_accepted (Sized (n + total ls)) (run t ls) u (run_sizes n (n + total ls) t ls (omega arith) s)

-- ---- a file

pub empty_sized : Sized 0 empty_table
unfolding text_of names entries
empty_sized = record { text = omega arith; few_sections = omega arith; few_entries = omega arith }

-- the table fits the file, and the file the limit
abbrev Fits : Bytes → Table → Type 0
Fits f t = Sized (size f) t × (size f ≤ 65535)

sound_fits : (f : Bytes) → Sound f → Holds (Fits f) (run empty_table (logical f))
sound_fits f sound =
    holds_imp (Sized (size f)) (Fits f) (λ t s. (s, sound.short))
    (run empty_table (logical f)) (run_sizes 0 (size f) empty_table (logical f) (omega (arith, lines_fit f)) empty_sized)

pub table_fits : TableFits
table_fits f t = of_accepted (Fits f) (verdict f) t (verdict_keeps (Fits f) f (sound_fits f))
