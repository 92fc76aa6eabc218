-- What holds of the tables that lines bring: a property is kept by a step where each way in which a line is accepted
-- keeps it, and by all lines where each step keeps it.
use Rattle.std.proofs.Common.{◌≡◌, ℕ, ◌<◌, ◌≤◌, ltb, List, [], ◌∷◌, length, refl, subst, ltb-false, ltb-true}
use mathlib.Core.Option.{Option, none, some}
use Rattle.lines.specs.Bytes.{Bytes}
use Rattle.lines.specs.Lines.{Line, logical}
use Rattle.lines.specs.Trim.{trimmed}
use Rattle.lines.specs.Files.{checked_file}
use Rattle.lines.specs.Answers.{Outcome, accepted, refused}
use Rattle.lines.specs.Laws.{Sound}
use Rattle.lines.proofs.Bools.{by_cases}
use Rattle.lines.proofs.Laws.{checked_is_sound}
use Rattle.table.specs.LineKinds.{Kind, empty, header, entry, fault, kind}
use Rattle.table.specs.Tables.{Table, empty_table, new_section, new_entry, entry_in, names, entries, index_of, with, opened, added, act, step, and_then, run, verdict}
use Rattle.table.specs.Laws.{EntryParts}
use Rattle.table.proofs.KindLaws.{HeaderParts, KindFacts, kind_facts}

-- an accepted result has the property
abbrev pub Holds : {A : Type 0} → (A → Type 0) → Outcome A → Type 0
Holds P (accepted x) = P x
Holds P (refused n p) = Unit {0}

pub of_accepted : {A : Type 0} (P : A → Type 0) (o : Outcome A) (x : A) → Holds P o → o ≡ accepted x → P x
of_accepted P o x h e = subst (Holds P) e h

-- what holds anyway, and what follows
always : {A : Type 0} {X : Type 0} (o : Outcome A) → X → Holds (λ x. X) o
always (accepted x) h = h
always (refused n p) h = tt

pub holds_imp : {A : Type 0} (P Q : A → Type 0) → ((x : A) → P x → Q x) → (o : Outcome A) → Holds P o → Holds Q o
holds_imp P Q f (accepted x) h = f x h
holds_imp P Q f (refused n p) h = tt

-- ---- one line

-- P holds after each way in which a line is accepted: it is empty, a header seen before, a new one, or an entry
pub record Kept (P : Table → Type 0) (t : Table) (l : Bytes) : Type 0 where
  pub same : l ≡ [] → P t
  pub again : (x : Bytes) (i : ℕ) → HeaderParts l x → index_of x (names t.events) ≡ some i
      → P (record { events = t.events; current = some i })
  pub named : (x : Bytes) → HeaderParts l x → index_of x (names t.events) ≡ none → length (names t.events) < 64
      → P (with t (new_section x) (length (names t.events)))
  pub filed : (k v : Bytes) (i : ℕ) → EntryParts l k v → t.current ≡ some i → length (entries t.events) < 512
      → P (with t (new_entry (entry_in i k v)) i)

module _ (P : Table → Type 0) (t : Table) (l : Bytes) (kept : Kept P t l) where
  opened_keeps : (n : ℕ) (x : Bytes) → HeaderParts l x → (o : Option ℕ) → index_of x (names t.events) ≡ o → Holds P (opened n t x o)
  unfolding opened
  opened_keeps n x f (some i) e = kept.again x i f e
  opened_keeps n x f none e =
      by_cases (ltb (length (names t.events)) 64)
      (λ h. rw h (kept.named x f e (ltb-true (length (names t.events)) 64 h)))
      (λ h. rw h tt)

  added_keeps : (n : ℕ) (k v : Bytes) → EntryParts l k v → (o : Option ℕ) → t.current ≡ o → Holds P (added n t k v o)
  unfolding added
  added_keeps n k v f none e = tt
  added_keeps n k v f (some i) e =
      by_cases (ltb (length (entries t.events)) 512)
      (λ h. rw h (kept.filed k v i f e (ltb-true (length (entries t.events)) 512 h)))
      (λ h. rw h tt)

  pub act_keeps : (n : ℕ) (o : Kind) → KindFacts l o → Holds P (act n t o)
  unfolding act
  act_keeps n empty f = kept.same f
  act_keeps n (header x) f = opened_keeps n x f (index_of x (names t.events)) refl
  act_keeps n (entry k v) f = added_keeps n k v f t.current refl
  act_keeps n (fault c) f = tt

pub step_keeps : (P : Table → Type 0) (t : Table) (l : Line) → Kept P t (trimmed l.bytes) → Holds P (step t l)
unfolding step
step_keeps P t l kept =
    by_cases (ltb 4096 (length l.bytes))
    (λ h. rw h tt)
    (λ h. rw h (act_keeps P t (trimmed l.bytes) kept l.number (kind (trimmed l.bytes)) (kind_facts (trimmed l.bytes))))

-- a line that is accepted is no longer than lines may be
pub step_is_short : (t : Table) (l : Line) → Holds (λ u. length l.bytes ≤ 4096) (step t l)
unfolding step
step_is_short t l =
    by_cases (ltb 4096 (length l.bytes))
    (λ h. rw h tt)
    (λ h. rw h (always (act l.number t (kind (trimmed l.bytes))) (ltb-false 4096 (length l.bytes) h)))

-- ---- all lines

-- what holds of a table and the lines ahead is kept, if each step keeps it
pub run_keeps : (P : List Line → Table → Type 0) → ((l : Line) (ls : List Line) (t : Table) → P (l ∷ ls) t → Holds (P ls) (step t l))
    → (ls : List Line) (t : Table) → P ls t → Holds (P []) (run t ls)
unfolding run and_then
run_keeps P keeps [] t h = h
run_keeps P keeps (l ∷ ls) t h = go (step t l) (keeps l ls t h) (run_keeps P keeps ls)
  where
    go : (o : Outcome Table) → Holds (P ls) o → ((u : Table) → P ls u → Holds (P []) (run u ls)) → Holds (P []) (and_then o (λ u. run u ls))
    go (accepted u) k ih = ih u k
    go (refused n p) k ih = tt

-- ---- a file

-- what holds of a table that a sound file's lines bring holds of an accepted one
pub verdict_keeps : (P : Table → Type 0) (f : Bytes) → (Sound f → Holds P (run empty_table (logical f))) → Holds P (verdict f)
unfolding verdict and_then
verdict_keeps P f h = go (checked_file f) refl
  where
    go : (o : Outcome (Unit {0})) → checked_file f ≡ o → Holds P (and_then o (λ sound. run empty_table (logical f)))
    go (accepted s) e = h (checked_is_sound f e)
    go (refused n p) e = tt
