-- The sections of an accepted file are those of its logical lines: each line that is read adds its name, or its pair under the
-- name of the open section, to what the lines before it have brought.
use mathlib.Core.Path.{◌≡◌, refl, sym, ap, ap₂, ◌∙◌}
use Prim.Native.Nat.{ℕ, suc, ◌<◌}
use mathlib.Core.Bool.{true, false}
use mathlib.Core.Option.{Option, none, some}
use mathlib.Core.List.{List, [], ◌∷◌, ◌++◌, append_assoc, append-nil}
use lib.ListN.{length, get_or, get_or-append}
use lib.Seq.{get_or-append_seam}
use Rattle.lines.specs.Bytes.{Bytes, equal}
use Rattle.lines.specs.Trim.{trimmed}
use Rattle.lines.specs.Lines.{Line, logical}
use Rattle.lines.specs.Answers.{accepted}
use Rattle.lines.specs.Laws.{All}
use Rattle.lines.proofs.Bools.{by_cases, clash, equal_eq}
use Rattle.table.specs.LineKinds.{header, kind}
use Rattle.table.specs.Tables.{Entry, entry_in, new_section, new_entry, Table, empty_table, names, entries, later, index_of, with, verdict}
use Rattle.table.specs.Laws.{EntryParts}
use Rattle.table.proofs.Laws.{brackets_are_a_header, parts_are_an_entry}
use Rattle.table.proofs.Events.{names_section, names-entry, entries_section, entries-entry}
use Rattle.table.proofs.KindLaws.{HeaderParts}
use Rattle.table.proofs.Outcomes.{of_accepted, Kept, step_keeps, run_keeps, verdict_keeps}
use Rattle.table.proofs.TableLaws.{Inside, Formed, empty_formed, step_kept}
use Rattle.normal_text.specs.Sections.{Pair, pair_of, Section}
use Rattle.normal_text.specs.ByLines.{with_name, header_names, is_among, each_once, Headed, under, headed, pairs_under, sections_under, sections_of_lines}
use Rattle.normal_text.specs.Laws.{SectionsByLines}
use Rattle.normal_text.proofs.ByName.{under_name, sections_named, sections_named_lem}
use Rattle.normal_text.proofs.Theorem.{table_in_lem}

-- ---- names and indexes

-- what an index behind the first says of the others
later_some : (o : Option ℕ) (i : ℕ) → later o ≡ some i → (j : ℕ) × (o ≡ some j) × (i ≡ suc j)
later_some none i e = clash (cc e)
later_some (some j) i e = (j, refl, cc e)

later_none : (o : Option ℕ) → later o ≡ none → o ≡ none
later_none none e = refl
later_none (some j) e = clash (cc e)

-- a name that has an index is among the names
among_some : (ns : List Bytes) (x : Bytes) (i : ℕ) → index_of x ns ≡ some i → is_among x ns ≡ true
unfolding index_of is_among
among_some [] x i e = clash (cc e)
among_some (y ∷ ns) x i e =
    by_cases (equal x y)
    (λ q. rw q)
    (λ q. let r = later_some (index_of x ns) i (rw q at e) in rw q (among_some ns x r.0 r.1))

-- and stands at it
name_at : (ns : List Bytes) (x : Bytes) (i : ℕ) → index_of x ns ≡ some i → get_or ns i [] ≡ x
unfolding index_of
name_at [] x i e = clash (cc e)
name_at (y ∷ ns) x i e =
    by_cases (equal x y)
    (λ q.
    let z : some 0 ≡ some i = rw q at e in
    let n : 0 ≡ i = cc z in
    ap (λ (k : ℕ). get_or (y ∷ ns) k []) (sym n) ∙ sym (equal_eq x y q))
    (λ q.
    let r = later_some (index_of x ns) i (rw q at e) in
    ap (λ (k : ℕ). get_or (y ∷ ns) k []) r.2 ∙ name_at ns x r.0 r.1)

-- one that has none is not among them
among_none : (ns : List Bytes) (x : Bytes) → index_of x ns ≡ none → is_among x ns ≡ false
unfolding index_of is_among
among_none [] x e = refl
among_none (y ∷ ns) x e =
    by_cases (equal x y)
    (λ q. let z : some 0 ≡ none = rw q at e in clash (cc z))
    (λ q. rw q (among_none ns x (later_none (index_of x ns) (rw q at e))))

-- ---- what a table has so far

-- entries, each under the name of its section
abbrev filed_under : List Bytes → List Entry → List Headed
filed_under ns [] = []
filed_under ns (e ∷ es) = record { header = get_or ns e.section []; pair = pair_of e } ∷ filed_under ns es

filed_snoc : (ns : List Bytes) (es : List Entry) (e : Entry)
    → filed_under ns (es ++ e ∷ []) ≡ filed_under ns es ++ record { header = get_or ns e.section []; pair = pair_of e } ∷ []
filed_snoc ns [] e = refl
filed_snoc ns (d ∷ es) e = ap (λ (l : List Headed). record { header = get_or ns d.section []; pair = pair_of d } ∷ l) (filed_snoc ns es e)

-- one name more behind the others changes none of them
filed_more : (ns : List Bytes) (x : Bytes) (es : List Entry) → All (Inside (length ns)) es → filed_under (ns ++ x ∷ []) es ≡ filed_under ns es
filed_more ns x [] h = refl
filed_more ns x (e ∷ es) h =
    ap₂ (λ (y : Bytes) (l : List Headed). record { header = y; pair = pair_of e } ∷ l)
    (get_or-append ns (x ∷ []) [] e.section h.0) (filed_more ns x es h.1)

-- the name of the open section, nothing before any header
abbrev open_name : List Bytes → Option ℕ → Bytes
open_name ns none = []
open_name ns (some i) = get_or ns i []

-- all names and all entries are those of the table, and then those of the lines ahead
pub record Ahead (ns : List Bytes) (hs : List Headed) (ls : List Line) (t : Table) : Type 0 where
  pub formed : Formed t
  pub names_so_far : ns ≡ names t.events ++ each_once (names t.events) (header_names ls)
  pub entries_so_far : hs ≡ filed_under (names t.events) (entries t.events) ++ headed (open_name (names t.events) t.current) ls

-- ---- one line

-- what a line of some kind brings
module _ (l : Line) (ls : List Line) where
  empty_names : trimmed l.bytes ≡ [] → header_names (l ∷ ls) ≡ header_names ls
  unfolding header_names with_name kind
  empty_names e = rw e

  empty_headed : (x : Bytes) → trimmed l.bytes ≡ [] → headed x (l ∷ ls) ≡ headed x ls
  unfolding headed under kind
  empty_headed x e = rw e

  header_kind_lem : (y : Bytes) → HeaderParts (trimmed l.bytes) y → kind (trimmed l.bytes) ≡ header y
  header_kind_lem y h = ap kind h.0 ∙ brackets_are_a_header y h.1

  header_named : (y : Bytes) → HeaderParts (trimmed l.bytes) y → header_names (l ∷ ls) ≡ y ∷ header_names ls
  unfolding header_names with_name
  header_named y h = rw (header_kind_lem y h)

  header_headed : (x y : Bytes) → HeaderParts (trimmed l.bytes) y → headed x (l ∷ ls) ≡ headed y ls
  unfolding headed under
  header_headed x y h = rw (header_kind_lem y h)

  entry-names : (k v : Bytes) → EntryParts (trimmed l.bytes) k v → header_names (l ∷ ls) ≡ header_names ls
  unfolding header_names with_name
  entry-names k v h = rw (parts_are_an_entry (trimmed l.bytes) k v h)

  entry-headed : (x k v : Bytes) → EntryParts (trimmed l.bytes) k v
      → headed x (l ∷ ls) ≡ record { header = x; pair = record { key = k; value = v } } ∷ headed x ls
  unfolding headed under
  entry-headed x k v h = rw (parts_are_an_entry (trimmed l.bytes) k v h)

-- names that were seen, and names that were not
once_seen : (seen : List Bytes) (x : Bytes) (xs : List Bytes) → is_among x seen ≡ true → each_once seen (x ∷ xs) ≡ each_once seen xs
unfolding each_once
once_seen seen x xs e = rw e

once_new : (seen : List Bytes) (x : Bytes) (xs : List Bytes) → is_among x seen ≡ false → each_once seen (x ∷ xs) ≡ x ∷ each_once (seen ++ x ∷ []) xs
unfolding each_once
once_new seen x xs e = rw e

module _ (ns : List Bytes) (hs : List Headed) (l : Line) (ls : List Line) (t : Table) (a : Ahead ns hs (l ∷ ls) t) where
  abbrev xs : List Bytes
  xs = names t.events

  abbrev es : List Entry
  es = entries t.events

  abbrev opened : Bytes
  opened = open_name xs t.current

  formed_kept : Kept Formed t (trimmed l.bytes)
  formed_kept = step_kept t a.formed l.bytes

  after_empty : trimmed l.bytes ≡ [] → Ahead ns hs ls t
  after_empty e = record {
    formed = formed_kept.same e;
    names_so_far = a.names_so_far ∙ ap (λ (r : List Bytes). xs ++ each_once xs r) (empty_names l ls e);
    entries_so_far = a.entries_so_far ∙ ap (λ (r : List Headed). filed_under xs es ++ r) (empty_headed l ls opened e);
  }

  after_again : (x : Bytes) (i : ℕ) → HeaderParts (trimmed l.bytes) x → index_of x xs ≡ some i
      → Ahead ns hs ls (record { events = t.events; current = some i })
  after_again x i h e = record {
    formed = formed_kept.again x i h e;
    names_so_far =
        a.names_so_far
        ∙ ap (λ (r : List Bytes). xs ++ r) (ap (each_once xs) (header_named l ls x h) ∙ once_seen xs x (header_names ls) (among_some xs x i e));
    entries_so_far =
        a.entries_so_far
        ∙ ap (λ (r : List Headed). filed_under xs es ++ r)
        (header_headed l ls opened x h ∙ ap (λ (y : Bytes). headed y ls) (sym (name_at xs x i e)));
  }

  after_named : (x : Bytes) → HeaderParts (trimmed l.bytes) x → index_of x xs ≡ none → length xs < 64
      → Ahead ns hs ls (with t (new_section x) (length xs))
  after_named x h e few = record {
    formed = formed_kept.named x h e few;
    names_so_far =
        rw (names_section t.events x)
        (a.names_so_far
        ∙ ap (λ (r : List Bytes). xs ++ r) (ap (each_once xs) (header_named l ls x h) ∙ once_new xs x (header_names ls) (among_none xs x e))
        ∙ sym (append_assoc xs (x ∷ []) (each_once (xs ++ x ∷ []) (header_names ls))));
    entries_so_far =
        rw (names_section t.events x, entries_section t.events x)
        (a.entries_so_far
        ∙ ap₂ (λ (q r : List Headed). q ++ r)
        (sym (filed_more xs x es a.formed.inside))
        (header_headed l ls opened x h ∙ ap (λ (y : Bytes). headed y ls) (sym (get_or-append_seam xs x [] []))));
  }

  after_filed : (k v : Bytes) (i : ℕ) → EntryParts (trimmed l.bytes) k v → t.current ≡ some i → length es < 512
      → Ahead ns hs ls (with t (new_entry (entry_in i k v)) i)
  after_filed k v i h e few =
      let o : opened ≡ get_or xs i [] = ap (open_name xs) e in
      let d : Headed = record { header = get_or xs i []; pair = record { key = k; value = v } } in
      record {
        formed = formed_kept.filed k v i h e few;
        names_so_far =
            rw (names-entry t.events (entry_in i k v))
            (a.names_so_far ∙ ap (λ (r : List Bytes). xs ++ each_once xs r) (entry-names l ls k v h));
        entries_so_far =
            rw (names-entry t.events (entry_in i k v), entries-entry t.events (entry_in i k v))
            (a.entries_so_far
            ∙ ap (λ (r : List Headed). filed_under xs es ++ r) (entry-headed l ls opened k v h ∙ ap (λ (y : Bytes). record { header = y; pair = record { key = k; value = v } } ∷ headed y ls) o)
            ∙ sym (append_assoc (filed_under xs es) (d ∷ []) (headed (get_or xs i []) ls))
            ∙ ap (λ (q : List Headed). q ++ headed (get_or xs i []) ls) (sym (filed_snoc xs es (entry_in i k v))));
      }

  ahead_kept : Kept (Ahead ns hs ls) t (trimmed l.bytes)
  ahead_kept = record { same = after_empty; again = after_again; named = after_named; filed = after_filed }

-- ---- a file

module _ (f : Bytes) where
  abbrev all : List Line
  all = logical f

  start : Ahead (each_once [] (header_names all)) (headed [] all) all empty_table
  unfolding names entries
  start = record { formed = empty_formed; names_so_far = refl; entries_so_far = refl }

  pub read_ahead : (t : Table) → verdict f ≡ accepted t → Ahead (each_once [] (header_names all)) (headed [] all) [] t
  read_ahead t =
      of_accepted (Ahead (each_once [] (header_names all)) (headed [] all) []) (verdict f) t
      (verdict_keeps (Ahead (each_once [] (header_names all)) (headed [] all) []) f
      (λ sound.
      run_keeps (Ahead (each_once [] (header_names all)) (headed [] all))
      (λ l ls u a. step_keeps (Ahead (each_once [] (header_names all)) (headed [] all) ls) u l (ahead_kept (each_once [] (header_names all)) (headed [] all) l ls u a))
      all empty_table start))

-- the same under names
pairs_filed : (ns : List Bytes) (x : Bytes) (es : List Entry) → under_name ns x es ≡ pairs_under x (filed_under ns es)
unfolding pairs_under
pairs_filed ns x [] = refl
pairs_filed ns x (e ∷ es) = rw (pairs_filed ns x es)

sections_filed : (ns xs : List Bytes) (es : List Entry) → sections_named ns xs es ≡ sections_under xs (filed_under ns es)
unfolding sections_under
sections_filed ns [] es = refl
sections_filed ns (x ∷ xs) es =
    ap₂ (λ (q : List Pair) (r : List (Section Pair)). record { name = x; entries = q } ∷ r) (pairs_filed ns x es) (sections_filed ns xs es)

pub sections_by_lines : SectionsByLines
unfolding sections_of_lines each_once header_names headed
sections_by_lines f ss e =
    let h = table_in_lem f ss e in
    let t : Table = h.0 in
    let a = read_ahead f t h.1 in
    let n : each_once [] (header_names (logical f)) ≡ names t.events = a.names_so_far ∙ append-nil (names t.events) in
    let p : headed [] (logical f) ≡ filed_under (names t.events) (entries t.events) =
    a.entries_so_far ∙ append-nil (filed_under (names t.events) (entries t.events)) in
    sym h.2 ∙ sections_named_lem f t h.1 ∙ sections_filed (names t.events) (names t.events) (entries t.events)
    ∙ ap₂ sections_under (sym n) (sym p)
