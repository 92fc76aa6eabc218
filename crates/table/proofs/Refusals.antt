-- A file is refused with 2 to 10 only: each definition on the way to the verdict names its numbers.
use Rattle.std.proofs.Common.{ℕ, ◌≤◌, eqb, ltb, List, [], ◌∷◌, length, subst, arith}
use mathlib.Core.Option.{Option, none, some}
use Rattle.lines.specs.Bytes.{Bytes, key_byte, control, any}
use Rattle.lines.specs.Utf8.{utf8}
use Rattle.lines.specs.Lines.{Line, logical}
use Rattle.lines.specs.Trim.{trimmed}
use Rattle.lines.specs.Files.{size, checked_bytes, checked_file}
use Rattle.lines.specs.Answers.{Outcome, accepted, refused}
use Rattle.lines.proofs.Bools.{by_cases}
use Rattle.table.specs.LineKinds.{Kind, empty, header, entry, fault, one_or_more, is_header, header_kind, is_equals_sign, key_of, entry_kind, kind}
use Rattle.table.specs.Tables.{Table, empty_table, names, entries, index_of, opened, added, act, step, and_then, run, verdict}
use Rattle.table.specs.Laws.{RefusalNumbers}

-- ---- numbers

abbrev Numbered : ℕ → Type 0
Numbered n = (2 ≤ n) × (n ≤ 10)

-- of a refusal
abbrev Refuses : {A : Type 0} → Outcome A → Type 0
Refuses (accepted x) = Unit {0}
Refuses (refused n p) = Numbered n

-- of a faulty line
abbrev Faults : Kind → Type 0
Faults empty = Unit {0}
Faults (header x) = Unit {0}
Faults (entry k v) = Unit {0}
Faults (fault n) = Numbered n

then_refuses : {A B : Type 0} (o : Outcome A) (go : A → Outcome B) → Refuses o → ((x : A) → Refuses (go x)) → Refuses (and_then o go)
unfolding and_then
then_refuses (accepted x) go h k = k x
then_refuses (refused n p) go h k = h

-- ---- the bytes of a file

checked_refuses : (f : Bytes) → Refuses (checked_file f)
unfolding checked_file checked_bytes
checked_refuses f =
    by_cases (ltb 65535 (size f))
    (λ e. rw e (omega arith, omega arith))
    (λ e.
    rw e
    (by_cases (utf8 f)
    (λ u. rw u (by_cases (any control f) (λ c. rw c (omega arith, omega arith)) (λ c. rw c tt)))
    (λ u. rw u (omega arith, omega arith))))

-- ---- a line

entry_faults : (l : Bytes) → Faults (entry_kind l)
unfolding entry_kind
entry_faults l =
    by_cases (any is_equals_sign l)
    (λ e. rw e (by_cases (one_or_more key_byte (key_of l)) (λ k. rw k tt) (λ k. rw k (omega arith, omega arith))))
    (λ e. rw e (omega arith, omega arith))

header_faults : (l : Bytes) → Faults (header_kind l)
unfolding header_kind
header_faults l = by_cases (is_header l) (λ e. rw e tt) (λ e. rw e (omega arith, omega arith))

kind_faults : (l : Bytes) → Faults (kind l)
unfolding kind
kind_faults [] = tt
kind_faults (b ∷ bs) = by_cases (eqb b 0x5B) (λ e. rw e (header_faults bs)) (λ e. rw e (entry_faults (b ∷ bs)))

opened_refuses : (n : ℕ) (t : Table) (x : Bytes) (o : Option ℕ) → Refuses (opened n t x o)
unfolding opened
opened_refuses n t x (some i) = tt
opened_refuses n t x none = by_cases (ltb (length (names t.events)) 64) (λ e. rw e tt) (λ e. rw e (omega arith, omega arith))

added_refuses : (n : ℕ) (t : Table) (k v : Bytes) (o : Option ℕ) → Refuses (added n t k v o)
unfolding added
added_refuses n t k v none = (omega arith, omega arith)
added_refuses n t k v (some i) = by_cases (ltb (length (entries t.events)) 512) (λ e. rw e tt) (λ e. rw e (omega arith, omega arith))

act_refuses : (n : ℕ) (t : Table) (o : Kind) → Faults o → Refuses (act n t o)
unfolding act
act_refuses n t empty h = tt
act_refuses n t (header x) h = opened_refuses n t x (index_of x (names t.events))
act_refuses n t (entry k v) h = added_refuses n t k v t.current
act_refuses n t (fault c) h = h

step_refuses : (t : Table) (l : Line) → Refuses (step t l)
unfolding step
step_refuses t l =
    by_cases (ltb 4096 (length l.bytes))
    (λ e. rw e (omega arith, omega arith))
    (λ e. rw e (act_refuses l.number t (kind (trimmed l.bytes)) (kind_faults (trimmed l.bytes))))

-- ---- a file

run_refuses : (ls : List Line) (t : Table) → Refuses (run t ls)
unfolding run
run_refuses [] t = tt
run_refuses (l ∷ ls) t = then_refuses (step t l) (λ u. run u ls) (step_refuses t l) (λ u. run_refuses ls u)

verdict_refuses : (f : Bytes) → Refuses (verdict f)
unfolding verdict
verdict_refuses f = then_refuses (checked_file f) (λ sound. run empty_table (logical f)) (checked_refuses f) (λ sound. run_refuses (logical f) empty_table)

pub refusal_numbers : RefusalNumbers
refusal_numbers f n p e = subst Refuses e (verdict_refuses f)
