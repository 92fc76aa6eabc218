-- What holds of the table of an accepted file: one record of facts, kept by each line. And lines with the same bytes
-- bring the same, whatever their numbers.
use Rattle.std.proofs.Common.{◌≡◌, ℕ, zero, suc, ◌+◌, ◌<◌, true, ltb, List, [], ◌∷◌, ◌++◌, length, get_or, sym, refl, ap, ◌∙◌, subst, append_assoc, append-nil, arith, length-append}
use mathlib.Core.Option.{Option, none, some}
use Rattle.lines.specs.Bytes.{Bytes, equal, header_byte}
use Rattle.lines.specs.Lines.{Line, logical}
use Rattle.lines.specs.Trim.{trim_start, trim_end, trimmed}
use Rattle.lines.specs.Answers.{Outcome, accepted, refused}
use Rattle.lines.specs.Laws.{All, bytes_of}
use Rattle.lines.proofs.Bools.{by_cases, clash, equal_refl}
use Rattle.lines.proofs.Trimming.{trim_end_idem, trimmed_both}
use Rattle.table.specs.LineKinds.{one_or_more, Kind, empty, header, entry, fault, kind}
use Rattle.table.specs.Tables.{Entry, entry_in, Table, empty_table, names, entries, later, index_of, opened, added, act, step, and_then, run, verdict}
use Rattle.table.specs.Laws.{EntryParts, Apart, NamesApart, EntriesInside, NamesLegal, EntryLegal, EntriesLegal, NumbersDecideNothing}
use Rattle.table.proofs.Events.{Below, index_below, names_section, names-entry, entries_section, entries-entry}
use Rattle.table.proofs.Parts.{trim_end-behind}
use Rattle.table.proofs.Outcomes.{Holds, of_accepted, Kept, step_keeps, run_keeps, verdict_keeps}

-- ---- lists with one element more

module _ {A : Type 0} where
  pub all_snoc : (P : A → Type 0) (l : List A) (x : A) → All P l → P x → All P (l ++ x ∷ [])
  all_snoc P [] x h p = (p, tt)
  all_snoc P (y ∷ l) x h p = (h.0, all_snoc P l x h.1 p)

  pub all_weaker : (P Q : A → Type 0) → ((x : A) → P x → Q x) → (l : List A) → All P l → All Q l
  all_weaker P Q f [] h = tt
  all_weaker P Q f (x ∷ l) h = (f x h.0, all_weaker P Q f l h.1)

  pub length_snoc : (l : List A) (x : A) → length (l ++ x ∷ []) ≡ suc (length l)
  length_snoc l x = omega (arith, length-append l (x ∷ []))

-- a name that stands nowhere before stands apart
pub apart_snoc : (xs seen : List Bytes) (x : Bytes) → Apart seen xs → index_of x (seen ++ xs) ≡ none → Apart seen (xs ++ x ∷ [])
apart_snoc [] seen x h e = (rw append-nil at e, tt)
apart_snoc (y ∷ xs) seen x h e = (h.0, apart_snoc xs (seen ++ y ∷ []) x h.1 (rw (append_assoc seen (y ∷ []) xs) e))

-- ---- indexes

-- the index of a name that no name before is equal to
index_behind : (seen : List Bytes) (y : Bytes) (ys : List Bytes) → index_of y seen ≡ none → index_of y (seen ++ y ∷ ys) ≡ some (length seen)
unfolding index_of
index_behind [] y ys e = rw (equal_refl y)
index_behind (z ∷ seen) y ys e =
    by_cases (equal y z)
    (λ q. let n : some 0 ≡ none = rw q at e in clash (cc (n)))
    (λ q. rw (q, index_behind seen y ys (not_later (index_of y seen) (rw q at e))))
  where
    not_later : (o : Option ℕ) → later o ≡ none → o ≡ none
    not_later none n = refl
    not_later (some i) n = clash (cc (n))

-- where names are apart, each has its own index
pub index_apart : (ns seen : List Bytes) (i : ℕ) → Apart seen ns → i < length ns → index_of (get_or ns i []) (seen ++ ns) ≡ some (length seen + i)
index_apart [] seen i h l = absurd (omega arith)
index_apart (y ∷ ys) seen zero h l = index_behind seen y ys h.0 ∙ ap some (omega arith)
index_apart (y ∷ ys) seen (suc i) h l =
    ap (index_of (get_or ys i [])) (sym (append_assoc seen (y ∷ []) ys))
    ∙ index_apart ys (seen ++ y ∷ []) i h.1 (omega arith)
    ∙ ap some (omega (arith, length-append seen (y ∷ [])))

-- ---- a table that lines have brought

-- one or more header bytes
abbrev pub GoodName : Bytes → Type 0
GoodName x = one_or_more header_byte x ≡ true

-- an entry of one of m sections
abbrev pub Inside : ℕ → Entry → Type 0
Inside m e = e.section < m

-- names apart and legal, entries inside and legal, and a section that is open is one of them
pub record Formed (t : Table) : Type 0 where
  pub apart : Apart [] (names t.events)
  pub good_names : All GoodName (names t.events)
  pub inside : All (Inside (length (names t.events))) (entries t.events)
  pub legal : All EntryLegal (entries t.events)
  pub current : Below (length (names t.events)) t.current

pub empty_formed : Formed empty_table
unfolding names entries
empty_formed = record { apart = tt; good_names = tt; inside = tt; legal = tt; current = tt }

-- the entry of a trimmed line
entry_legal : (l k v : Bytes) (i : ℕ) → EntryParts (trimmed l) k v → EntryLegal (entry_in i k v)
entry_legal l k v i p =
    let e : trim_end (trimmed l) ≡ trimmed l = rw (trimmed_both l) (trim_end_idem (trim_start l)) in
    record {
      key = p.key;
      starts = p.value;
      ends = trim_end-behind (k ++ p.front ++ 0x3D ∷ p.back) v (rw p.line at e);
    }

module _ (t : Table) (f : Formed t) (l : Bytes) where
  abbrev count : ℕ
  count = length (names t.events)

  pub step_kept : Kept Formed t (trimmed l)
  step_kept = record {
    same = λ z. f;
    again = λ x i h e. record {
      apart = f.apart;
      good_names = f.good_names;
      inside = f.inside;
      legal = f.legal;
      current = subst (Below count) e (index_below (names t.events) x);
    };
    named = λ x h e few. record {
      apart = rw names_section (apart_snoc (names t.events) [] x f.apart e);
      good_names = rw names_section (all_snoc GoodName (names t.events) x f.good_names h.1);
      inside =
          rw (names_section, entries_section, length_snoc (names t.events) x)
          (all_weaker (Inside count) (Inside (suc count)) (λ d b. omega arith) (entries t.events) f.inside);
      legal = rw entries_section f.legal;
      current = rw (names_section, length_snoc (names t.events) x) (omega arith);
    };
    filed = λ k v i h e few.
        let b : i < count = subst (Below count) e f.current in
        record {
          apart = rw names-entry f.apart;
          good_names = rw names-entry f.good_names;
          inside = rw (names-entry, entries-entry) (all_snoc (Inside count) (entries t.events) (entry_in i k v) f.inside b);
          legal = rw entries-entry (all_snoc EntryLegal (entries t.events) (entry_in i k v) f.legal (entry_legal l k v i h));
          current = rw names-entry b;
        };
  }

pub run_formed : (t : Table) (ls : List Line) → Formed t → Holds Formed (run t ls)
run_formed t ls f = run_keeps (λ ms. Formed) (λ l ms u g. step_keeps Formed u l (step_kept u g l.bytes)) ls t f

pub verdict_formed : (f : Bytes) (t : Table) → verdict f ≡ accepted t → Formed t
verdict_formed f t = of_accepted Formed (verdict f) t (verdict_keeps Formed f (λ s. run_formed empty_table (logical f) empty_formed))

pub names_apart : NamesApart
names_apart f t e = (verdict_formed f t e).apart

pub entries-inside : EntriesInside
entries-inside f t e = (verdict_formed f t e).inside

pub names_legal : NamesLegal
names_legal f t e = (verdict_formed f t e).good_names

pub entries_legal : EntriesLegal
entries_legal f t e = (verdict_formed f t e).legal

-- ---- the number of a line

-- what a line brings does not depend on it
opened_same : (n m : ℕ) (t : Table) (x : Bytes) (o : Option ℕ) → Holds (λ u. opened m t x o ≡ accepted u) (opened n t x o)
unfolding opened
opened_same n m t x (some i) = refl
opened_same n m t x none = by_cases (ltb (length (names t.events)) 64) (λ e. rw e) (λ e. rw e tt)

added_same : (n m : ℕ) (t : Table) (k v : Bytes) (o : Option ℕ) → Holds (λ u. added m t k v o ≡ accepted u) (added n t k v o)
unfolding added
added_same n m t k v none = tt
added_same n m t k v (some i) = by_cases (ltb (length (entries t.events)) 512) (λ e. rw e) (λ e. rw e tt)

act_same : (n m : ℕ) (t : Table) (o : Kind) → Holds (λ u. act m t o ≡ accepted u) (act n t o)
unfolding act
act_same n m t empty = refl
act_same n m t (header x) = opened_same n m t x (index_of x (names t.events))
act_same n m t (entry k v) = added_same n m t k v t.current
act_same n m t (fault c) = tt

step_same : (t : Table) (l m : Line) → l.bytes ≡ m.bytes → Holds (λ u. step t m ≡ accepted u) (step t l)
unfolding step
step_same t l m e =
    rw e
    (by_cases (ltb 4096 (length m.bytes))
    (λ h. rw h tt)
    (λ h. rw h (act_same l.number m.number t (kind (trimmed m.bytes)))))

run_same : (ls ms : List Line) → bytes_of ls ≡ bytes_of ms → (t : Table) → Holds (λ u. run t ms ≡ accepted u) (run t ls)
unfolding run and_then
run_same [] [] e t = refl
run_same [] (m ∷ ms) e t = cc
run_same (l ∷ ls) [] e t = clash (cc)
run_same (l ∷ ls) (m ∷ ms) e t = go (step t l) (step_same t l m (cc)) (run_same ls ms (cc))
  where
    go : (o : Outcome Table) → Holds (λ u. step t m ≡ accepted u) o → ((u : Table) → Holds (λ w. run u ms ≡ accepted w) (run u ls))
        → Holds (λ w. and_then (step t m) (λ u. run u ms) ≡ accepted w) (and_then o (λ u. run u ls))
    go (accepted u) h ih = rw h (ih u)
    go (refused n p) h ih = tt

pub numbers_decide_nothing : NumbersDecideNothing
numbers_decide_nothing ls ms e t u = of_accepted (λ w. run t ms ≡ accepted w) (run t ls) u (run_same ls ms e t)
