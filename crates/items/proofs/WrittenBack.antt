-- The written form of items spells them: each item by its elements, with one space between two of them, and no byte
-- that is forbidden. So it is split into these items.
use mathlib.Core.Path.{◌≡◌, refl, sym, ap, ◌∙◌}
use Prim.Native.Nat.{ℕ, ◌<◌}
use native.Mathlib.Omega.{arith}
use mathlib.Core.Bool.{true, ◌&&◌}
use mathlib.Core.List.{List, [], ◌∷◌, ◌++◌, append-nil}
use lib.ListN.{length}
use Rattle.lines.specs.Bytes.{Bytes, all}
use Rattle.lines.specs.Answers.{Outcome, accepted}
use Rattle.lines.proofs.Bools.{by_cases, impossible, clash, and_left, and_right, both, all_append}
use Rattle.items.specs.Split.{bytes_of, split_of}
use Rattle.items.specs.Write.{is_bare, in_quotes, written_item, written}
use Rattle.items.specs.Grammar.{Element, BareElement, QuotedElement, all_spelt, Spelling, bare, quoted, SoundItem, item_spelt, item_meant, Spelled}
use Rattle.items.specs.Laws.{Writable}
use Rattle.items.proofs.Elements.{parts}
use Rattle.items.proofs.SpelledItems.{spelled_splits}
use Rattle.items.proofs.Listed.{Listed, none_listed, blank-before, item_before, listed_spelled}
use Rattle.items.proofs.WrittenElements.{byte, allowed, Inside, quoted_inside, bare_inside}

-- ---- an item

-- the item that a text spells
record ItemAs (x t : Bytes) : Type 0 where
  spelling : Spelling
  text : t ≡ item_spelt spelling
  means : x ≡ item_meant spelling
  sound_item : SoundItem spelling
  bytes : all allowed t ≡ true

some_element : (es : List Element) (b : ℕ) (t : Bytes) → b ∷ t ≡ all_spelt es → 0 < length es
some_element [] b t h = clash cc
some_element (e ∷ es) b t h = omega arith

bare_item_lem : (x : Bytes) → is_bare x ≡ true → all byte x ≡ true → ItemAs x x
unfolding is_bare
bare_item_lem [] h k = impossible h
bare_item_lem (b ∷ x) h k =
    let r : Inside BareElement (b ∷ x) (b ∷ x) = bare_inside (b ∷ x) k h in
    record {
      spelling = bare r.list;
      text = r.text;
      means = r.means;
      sound_item = (some_element r.list b x r.text, r.elements);
      bytes = r.bytes;
    }

quoted_item_lem : (x : Bytes) → all byte x ≡ true → ItemAs x (0x22 ∷ in_quotes x ++ 0x22 ∷ [])
unfolding all
quoted_item_lem x k =
    let r : Inside (QuotedElement 0x22) x (in_quotes x) = quoted_inside x k in
    record {
      spelling = quoted 0x22 r.list;
      text = rw r.text;
      means = r.means;
      sound_item = (refl, r.elements);
      bytes = all_append allowed (in_quotes x) (0x22 ∷ []) ∙ rw r.bytes;
    }

item_written : (x : Bytes) → all byte x ≡ true → ItemAs x (written_item x)
unfolding written_item
item_written x k = by_cases (is_bare x) (λ e. rw e (bare_item_lem x e k)) (λ e. rw e (quoted_item_lem x k))

-- ---- all items

record Written (xs : List Bytes) (t : Bytes) : Type 0 where
  items : Listed t xs
  bytes : all allowed t ≡ true

item_before_written : {x s t : Bytes} {xs : List Bytes} → ItemAs x s → parts t ≡ true → Written xs t → Written (x ∷ xs) (s ++ t)
item_before_written {s} {t} i p r =
    record {
      items = rw (i.text, i.means) (item_before i.spelling i.sound_item p r.items);
      bytes = all_append allowed s t ∙ both (all allowed s) (all allowed t) i.bytes r.bytes;
    }

all-written : (xs : List Bytes) → all byte (bytes_of xs) ≡ true → Written xs (written xs)
unfolding written bytes_of all parts
all-written [] h = record { items = none_listed; bytes = refl }
all-written (x ∷ []) h =
    let k : all byte x ≡ true = and_left (all byte x) (all byte []) (sym (all_append byte x []) ∙ h) in
    rw append-nil at (item_before_written (item_written x k) refl (record { items = none_listed; bytes = refl }))
all-written (x ∷ y ∷ ys) h =
    let k : (all byte x && all byte (bytes_of (y ∷ ys))) ≡ true = sym (all_append byte x (bytes_of (y ∷ ys))) ∙ h in
    let r : Written (y ∷ ys) (written (y ∷ ys)) = all-written (y ∷ ys) (and_right (all byte x) (all byte (bytes_of (y ∷ ys))) k) in
    item_before_written (item_written x (and_left (all byte x) (all byte (bytes_of (y ∷ ys))) k)) refl
    (record { items = blank-before 0x20 refl r.items; bytes = r.bytes })

pub written_spelled : (xs : List Bytes) → Writable xs → Spelled (written xs) xs
written_spelled xs w =
    let r : Written xs (written xs) = all-written xs w.bytes in
    listed_spelled w.few w.short r.bytes r.items

-- ---- written and split

pub written_splits : (xs : List Bytes) → Writable xs → split_of (written xs) ≡ accepted xs
written_splits xs w = spelled_splits (written xs) xs (written_spelled xs w)

pub same_written : (xs ys : List Bytes) → Writable xs → Writable ys → written xs ≡ written ys → xs ≡ ys
same_written xs ys v w e =
    let z : ◌≡◌ {A = Outcome (List Bytes)} (accepted xs) (accepted ys) = sym (written_splits xs v) ∙ ap split_of e ∙ written_splits ys w in
    cc
