-- What the events of a table bring when one more is added at the end, and how many numbers their records are: each
-- list made of events is that of the front, followed by what the last event gives.
use Rattle.std.proofs.Common.{◌≡◌, ℕ, suc, ◌+◌, ◌*◌, ◌<◌, List, [], ◌∷◌, ◌++◌, length, sym, refl, ap, ◌∙◌, append_assoc, append-nil, arith, length-append}
use mathlib.Core.Option.{Option, none, some}
use Rattle.lines.specs.Bytes.{Bytes, equal}
use Rattle.lines.proofs.Bools.{by_cases}
use Rattle.table.specs.Tables.{Entry, Event, new_section, new_entry, names, entries, later, index_of}
use Rattle.table.specs.Contents.{event_text, text_of, section_record, entry_record, records_from}

-- ---- names and entries

pub names_section : (es : List Event) (x : Bytes) → names (es ++ new_section x ∷ []) ≡ names es ++ x ∷ []
unfolding names
names_section [] x = refl
names_section (new_section y ∷ es) x = ap (λ (l : List Bytes). y ∷ l) (names_section es x)
names_section (new_entry e ∷ es) x = names_section es x

pub names-entry : (es : List Event) (e : Entry) → names (es ++ new_entry e ∷ []) ≡ names es
unfolding names
names-entry [] e = refl
names-entry (new_section y ∷ es) e = ap (λ (l : List Bytes). y ∷ l) (names-entry es e)
names-entry (new_entry d ∷ es) e = names-entry es e

pub entries_section : (es : List Event) (x : Bytes) → entries (es ++ new_section x ∷ []) ≡ entries es
unfolding entries
entries_section [] x = refl
entries_section (new_section y ∷ es) x = entries_section es x
entries_section (new_entry d ∷ es) x = ap (λ (l : List Entry). d ∷ l) (entries_section es x)

pub entries-entry : (es : List Event) (e : Entry) → entries (es ++ new_entry e ∷ []) ≡ entries es ++ e ∷ []
unfolding entries
entries-entry [] e = refl
entries-entry (new_section y ∷ es) e = entries-entry es e
entries-entry (new_entry d ∷ es) e = ap (λ (l : List Entry). d ∷ l) (entries-entry es e)

-- ---- the text

pub text_of_snoc : (es : List Event) (e : Event) → text_of (es ++ e ∷ []) ≡ text_of es ++ event_text e
unfolding text_of
text_of_snoc [] e = append-nil (event_text e)
text_of_snoc (d ∷ es) e = rw (text_of_snoc es e) (sym (append_assoc (event_text d) (text_of es) (event_text e)))

pub text_length : (es : List Event) (e : Event) → length (text_of (es ++ e ∷ [])) ≡ length (text_of es) + length (event_text e)
text_length es e = ap length (text_of_snoc es e) ∙ length-append (text_of es) (event_text e)

-- ---- the numbers

pub records_snoc : (f : ℕ → Event → List ℕ) (a : ℕ) (es : List Event) (e : Event)
    → records_from f a (es ++ e ∷ []) ≡ records_from f a es ++ f (a + length (text_of es)) e
unfolding records_from text_of
records_snoc f a [] e =
    let n : a + 0 ≡ a = omega arith in
    append-nil (f a e) ∙ ap (λ (i : ℕ). f i e) (sym n)
records_snoc f a (d ∷ es) e =
    let n : (a + length (event_text d)) + length (text_of es) ≡ a + length (event_text d ++ text_of es) =
    omega (arith, length-append (event_text d) (text_of es)) in
    rw (records_snoc f (a + length (event_text d)) es e, n)
    (sym (append_assoc (f a d) (records_from f (a + length (event_text d)) es) (f (a + length (event_text d ++ text_of es)) e)))

pub sections_length : (a : ℕ) (es : List Event) → length (records_from section_record a es) ≡ 2 * length (names es)
unfolding records_from names
sections_length a [] = refl
sections_length a (new_section x ∷ es) = omega (arith, sections_length (a + length x) es)
sections_length a (new_entry e ∷ es) = sections_length (a + length (e.key ++ e.value)) es

pub entries-length : (a : ℕ) (es : List Event) → length (records_from entry_record a es) ≡ 5 * length (entries es)
unfolding records_from entries
entries-length a [] = refl
entries-length a (new_section x ∷ es) = entries-length (a + length x) es
entries-length a (new_entry e ∷ es) = omega (arith, entries-length (a + length (e.key ++ e.value)) es)

-- ---- the index of a name

-- an index, where there is one, is below m
abbrev pub Below : ℕ → Option ℕ → Type 0
Below m none = Unit {0}
Below m (some i) = i < m

pub index_below : (ns : List Bytes) (x : Bytes) → Below (length ns) (index_of x ns)
unfolding index_of
index_below [] x = tt
index_below (y ∷ ys) x = by_cases (equal x y) (λ e. rw e (omega arith)) (λ e. rw e (go (index_of x ys) (index_below ys x)))
  where
    go : (o : Option ℕ) → Below (length ys) o → Below (suc (length ys)) (later o)
    go none h = tt
    go (some i) h = omega arith
