-- What the lines of a file bring can be written out: each header and each entry in a line that is short enough, values
-- legal, and all lines together in no more bytes than were read. Kept by each line, as long as there are lines ahead.
use mathlib.Core.Path.{◌≡◌, refl}
use Prim.Native.Nat.{ℕ, suc, ◌+◌, ◌≤◌}
use native.Mathlib.Omega.{arith}
use mathlib.Core.Option.{some}
use mathlib.Core.List.{List, [], ◌∷◌}
use lib.ListN.{length}
use Rattle.lines.specs.Bytes.{Bytes}
use Rattle.lines.specs.Lines.{Line, logical}
use Rattle.lines.specs.Files.{size}
use Rattle.lines.specs.Trim.{trimmed}
use Rattle.lines.specs.Answers.{Outcome, accepted, refused}
use Rattle.lines.specs.Laws.{All, Legal, Settled, Sound, total}
use Rattle.lines.proofs.Laws.{lines_fit, lines_settled}
use Rattle.table.specs.Tables.{Entry, entry_in, Table, empty_table, names, entries, step, run, verdict}
use Rattle.table.proofs.Events.{names_section, names-entry, entries_section, entries-entry}
use Rattle.table.proofs.Outcomes.{Holds, of_accepted, holds_imp, Kept, step_keeps, step_is_short, run_keeps, verdict_keeps}
use Rattle.table.proofs.TableLaws.{all_snoc}
use Rattle.normal_text.specs.Sections.{Pair, pair_of}
use Rattle.normal_text.specs.NormalText.{header_line, entry_line}
use Rattle.normal_text.proofs.Lists.{sum, sum_snoc}
use Rattle.normal_text.proofs.Fitting.{header_shorter, value_legal, entry_shorter}

-- ---- a table that can be written out

-- the bytes of a header's line, with its LF
abbrev pub header_size : Bytes → ℕ
header_size x = suc (length (header_line x))

-- and of an entry's
abbrev pub entry_size : Pair → ℕ
entry_size p = suc (length (entry_line p))

-- its line is short enough
abbrev pub ShortName : Bytes → Type 0
ShortName x = length (header_line x) ≤ 4096

-- its value is legal, and its line short enough
pub record EntryPrints (e : Entry) : Type 0 where
  pub legal : Legal e.value
  pub short : length (entry_line (pair_of e)) ≤ 4096

-- all names and entries, in at most n bytes
pub record Printable (n : ℕ) (t : Table) : Type 0 where
  pub short_names : All ShortName (names t.events)
  pub good_entries : All EntryPrints (entries t.events)
  pub fits : sum header_size (names t.events) + sum (λ e. entry_size (pair_of e)) (entries t.events) ≤ n

empty_printable : Printable 0 empty_table
unfolding names entries
empty_printable = record { short_names = tt; good_entries = tt; fits = omega arith }

-- a larger bound, and any open section
printable_more : (n m : ℕ) (t u : Table) → t.events ≡ u.events → n ≤ m → Printable n t → Printable m u
printable_more n m t u e h p = record {
  short_names = rw (← e) p.short_names;
  good_entries = rw (← e) p.good_entries;
  fits = rw (← e) (omega (arith, p.fits));
}

-- ---- one line

module _ (n : ℕ) (t : Table) (p : Printable n t) (l : Bytes) (s : Settled l) where
  -- after a line that is short enough
  abbrev Next : Table → Type 0
  Next u = length l ≤ 4096 → Printable (n + suc (length l)) u

  step_kept : Kept Next t (trimmed l)
  step_kept = record {
    same = λ z short. printable_more n (n + suc (length l)) t t refl (omega arith) p;
    again = λ x i h e short. printable_more n (n + suc (length l)) t (record { events = t.events; current = some i }) refl (omega arith) p;
    named = λ x h e few short.
        let k : length (header_line x) ≤ length l = header_shorter l x h in
        record {
          short_names = rw names_section (all_snoc ShortName (names t.events) x p.short_names (omega arith));
          good_entries = rw entries_section p.good_entries;
          fits = rw (names_section, entries_section) (omega (arith, p.fits, sum_snoc header_size (names t.events) x));
        };
    filed = λ k v i h e few short.
        let d : Entry = entry_in i k v in
        let b : length (entry_line (pair_of d)) ≤ length l = entry_shorter l s (pair_of d) h in
        let g : EntryPrints d = record { legal = value_legal l s (pair_of d) h; short = omega arith } in
        record {
          short_names = rw names-entry p.short_names;
          good_entries = rw entries-entry (all_snoc EntryPrints (entries t.events) d p.good_entries g);
          fits = rw (names-entry, entries-entry) (omega (arith, p.fits, sum_snoc (λ e. entry_size (pair_of e)) (entries t.events) d));
        };
  }

  -- it is
  next_holds : (o : Outcome Table) → Holds Next o → Holds (λ u. length l ≤ 4096) o → Holds (Printable (n + suc (length l))) o
  next_holds (accepted u) h k = h k
  next_holds (refused c m) h k = tt

step_prints : (n : ℕ) (t : Table) (l : Line) → Printable n t → Settled l.bytes → Holds (Printable (n + suc (length l.bytes))) (step t l)
step_prints n t l p s =
    next_holds n t p l.bytes s (step t l)
    (step_keeps (Next n t p l.bytes s) t l (step_kept n t p l.bytes s))
    (step_is_short t l)

-- ---- all lines

-- so few bytes that the lines ahead, which are settled, still fit below m
pub record Ahead (m : ℕ) (ls : List Line) (t : Table) : Type 0 where
  pub bytes : ℕ
  pub printable : Printable bytes t
  pub fits : bytes + total ls ≤ m
  pub settled : All (λ (l : Line). Settled l.bytes) ls

ahead_step : (m : ℕ) (l : Line) (ls : List Line) (t : Table) → Ahead m (l ∷ ls) t → Holds (Ahead m ls) (step t l)
unfolding total
ahead_step m l ls t a =
    holds_imp (Printable (a.bytes + suc (length l.bytes))) (Ahead m ls)
    (λ u p. record { bytes = a.bytes + suc (length l.bytes); printable = p; fits = omega (arith, a.fits); settled = a.settled.1 })
    (step t l) (step_prints a.bytes t l a.printable a.settled.0)

-- ---- a file

sound_prints : (f : Bytes) → Sound f → Holds (Printable (size f)) (run empty_table (logical f))
sound_prints f s =
    holds_imp (Ahead (size f) []) (Printable (size f))
    (λ t a. printable_more a.bytes (size f) t t refl (omega (arith, a.fits)) a.printable)
    (run empty_table (logical f))
    (run_keeps (Ahead (size f)) (ahead_step (size f)) (logical f) empty_table (record {
      bytes = 0;
      printable = empty_printable;
      fits = omega (arith, lines_fit f);
      settled = lines_settled f s.characters s.bytes;
    }))

pub verdict_prints : (f : Bytes) (t : Table) → verdict f ≡ accepted t → Printable (size f) t
verdict_prints f t = of_accepted (Printable (size f)) (verdict f) t (verdict_keeps (Printable (size f)) f (sound_prints f))
