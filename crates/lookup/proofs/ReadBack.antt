-- What a table laid out in the buffers decodes to, whatever stands behind it: the table itself. By recursion over the
-- events, with the text before them in front.
use mathlib.Core.Path.{◌≡◌, refl, sym, ap}
use Prim.Native.Nat.{ℕ, ◌+◌, ◌<◌}
use native.Mathlib.Omega.{arith}
use mathlib.Core.Bool.{true}
use mathlib.Core.Option.{some}
use mathlib.Core.List.{List, [], ◌∷◌, ◌++◌, append_assoc}
use lib.ListN.{length, drop, length-append}
use lib.Seq.{take_at, drop_at}
use borrow.Author.Tests.{le-leb, lt-ltb}
use Rattle.lines.specs.Bytes.{Bytes}
use Rattle.lines.specs.Laws.{All}
use Rattle.table.specs.Tables.{Entry, Event, new_section, new_entry, names, entries}
use Rattle.table.specs.Contents.{text_of, section_record, entry_record, records_from}
use Rattle.table.proofs.Laws.{entries_are_inside}
use Rattle.lookup.specs.Decoding.{part, inside, followed, names_in, entries_in, together, table_in}
use Rattle.lookup.specs.Laws.{ReadDecodes}

-- ---- a part behind other bytes

module _ (p x r : Bytes) where
  part_at : part (p ++ (x ++ r)) (length p) (length x) ≡ x
  part_at = rw (drop_at p (x ++ r) (length p) refl) (take_at x r (length x) refl)

  inside_at : inside (p ++ (x ++ r)) (length p) (length x) ≡ true
  inside_at =
      le-leb (length p + length x) (length (p ++ (x ++ r)))
      (omega (arith, length-append p (x ++ r), length-append x r))

-- ---- sections

names_back : (es : List Event) (p r : Bytes) (more : List ℕ)
    → names_in (p ++ (text_of es ++ r)) (length (names es)) (records_from section_record (length p) es ++ more) ≡ some (names es)
unfolding names_in names records_from text_of followed
names_back [] p r more = refl
names_back (new_section x ∷ es) p r more =
    let t : p ++ ((x ++ text_of es) ++ r) ≡ p ++ (x ++ (text_of es ++ r)) = simp append_assoc in
    let i : names_in (p ++ ((x ++ text_of es) ++ r)) (length (names es)) (records_from section_record (length p + length x) es ++ more) ≡ some (names es) =
    rw (t, ← append_assoc p x (text_of es ++ r), ← length-append p x) (names_back es (p ++ x) r more) in
    rw (t, part_at p x (text_of es ++ r), inside_at p x (text_of es ++ r)) (ap (followed true x) i)
names_back (new_entry e ∷ es) p r more =
    let y : Bytes = e.key ++ e.value in
    let t : p ++ ((y ++ text_of es) ++ r) ≡ (p ++ y) ++ (text_of es ++ r) = simp append_assoc in
    rw (t, ← length-append p y) (names_back es (p ++ y) r more)

-- ---- entries

-- an entry of one of m sections
abbrev Below : ℕ → Entry → Type 0
Below m e = e.section < m

module _ (e : Entry) (p r : Bytes) where
  -- its text behind other bytes, and before others
  abbrev whole : Bytes
  whole = p ++ ((e.key ++ e.value) ++ r)

  key_first : whole ≡ p ++ (e.key ++ (e.value ++ r))
  key_first = simp append_assoc

  value_first : whole ≡ (p ++ e.key) ++ (e.value ++ r)
  value_first = simp append_assoc

  key_part : part whole (length p) (length e.key) ≡ e.key
  key_part = rw key_first (part_at p e.key (e.value ++ r))

  key_inside : inside whole (length p) (length e.key) ≡ true
  key_inside = rw key_first (inside_at p e.key (e.value ++ r))

  value-part : part whole (length p + length e.key) (length e.value) ≡ e.value
  value-part = rw (value_first, ← length-append p e.key) (part_at (p ++ e.key) e.value r)

  value-inside : inside whole (length p + length e.key) (length e.value) ≡ true
  value-inside = rw (value_first, ← length-append p e.key) (inside_at (p ++ e.key) e.value r)

entries_back : (es : List Event) (m : ℕ) (p r : Bytes) (more : List ℕ) → All (Below m) (entries es)
    → entries_in (p ++ (text_of es ++ r)) m (length (entries es)) (records_from entry_record (length p) es ++ more) ≡ some (entries es)
unfolding entries_in entries records_from text_of followed
entries_back [] m p r more h = refl
entries_back (new_section x ∷ es) m p r more h =
    let t : p ++ ((x ++ text_of es) ++ r) ≡ (p ++ x) ++ (text_of es ++ r) = simp append_assoc in
    rw (t, ← length-append p x) (entries_back es m (p ++ x) r more h)
entries_back (new_entry e ∷ es) m p r more h =
    let y : Bytes = e.key ++ e.value in
    let t : p ++ ((y ++ text_of es) ++ r) ≡ whole e p (text_of es ++ r) = ap (λ (l : Bytes). p ++ l) (append_assoc y (text_of es) r) in
    let u : whole e p (text_of es ++ r) ≡ (p ++ y) ++ (text_of es ++ r) = sym (append_assoc p y (text_of es ++ r)) in
    let i : entries_in (p ++ ((y ++ text_of es) ++ r)) m (length (entries es)) (records_from entry_record (length p + length y) es ++ more) ≡ some (entries es) =
    rw (t, u, ← length-append p y) (entries_back es m (p ++ y) r more h.1) in
    rw (t, key_part e p (text_of es ++ r), value-part e p (text_of es ++ r), key_inside e p (text_of es ++ r), value-inside e p (text_of es ++ r), lt-ltb e.section m h.0)
    (ap (followed true e) i)

-- ---- the table

pub read_decodes : ReadDecodes
unfolding table_in together
read_decodes f t v d e g =
    rw (
      names_back t.events [] (drop (length (text_of t.events)) d) (drop (length (records_from section_record 0 t.events)) e),
      entries_back t.events (length (names t.events)) [] (drop (length (text_of t.events)) d) (drop (length (records_from entry_record 0 t.events)) g)
          (entries_are_inside f t v),
    )
