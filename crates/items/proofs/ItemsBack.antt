-- A text that is accepted spells its items: each reading step takes blanks and a sound item off its front, or finds
-- blanks alone.
use mathlib.Core.Path.{◌≡◌, refl, sym, ap, ◌∙◌}
use Prim.Native.Nat.{ℕ, zero, suc, ◌≤◌, ◌<◌}
use native.Mathlib.Omega.{arith}
use mathlib.Core.Bool.{true, false}
use mathlib.Core.List.{List, [], ◌∷◌, ◌++◌, append_assoc, append-nil}
use lib.ListN.{length}
use lib.Dec.{ltb}
use borrow.Author.Tests.{ltb-false, not-false}
use Rattle.lines.specs.Bytes.{Bytes, blank, all, any}
use Rattle.lines.specs.Answers.{Outcome, accepted, refused}
use Rattle.lines.proofs.Bools.{by_cases, clash, impossible, and_left, and_right, both, any-all}
use Rattle.items.specs.Pieces.{Piece, quote, pieces_from, pieces}
use Rattle.items.specs.Split.{Step, item, end, refusal, bare_item, quoted_item, past_blanks, begun, step, with_item, collected, items_of, forbidden, first_forbidden, split_of}
use Rattle.items.specs.Grammar.{Element, BareElement, QuotedElement, all_spelt, Spelling, bare, quoted, SoundItem, item_spelt, item_meant, Spelled}
use Rattle.items.proofs.StepLaws.{step_end, step-blank, step_quote, step_bare}
use Rattle.items.proofs.Elements.{parts}
use Rattle.items.proofs.Listed.{Listed, none_listed, blank-before, item_before, listed_spelled}
use Rattle.items.proofs.ElementsBack.{read, begins, Back, bare_back, quoted_back}

-- ---- a reading step

-- blanks and an item at the front of a text, and the text that is left, with its pieces
record Taken (n : ℕ) (t x : Bytes) (ps : List Piece) : Type 0 where
  blanks : Bytes
  spelling : Spelling
  rest : Bytes
  offset : ℕ
  text : t ≡ blanks ++ (item_spelt spelling ++ rest)
  all_blank : all blank blanks ≡ true
  sound_item : SoundItem spelling
  means : x ≡ item_meant spelling
  pieces_left : ps ≡ pieces_from 0 offset rest
  ends : parts rest ≡ true
  may_come : 0 < n

-- what a step says of the text, where n more items may come
abbrev StepBack : ℕ → Bytes → Step → Type 0
StepBack n t (item x ps) = Taken n t x ps
StepBack n t end = all blank t ≡ true
StepBack n t (refusal m p) = Unit {0}

starts_with_element : (es : List Element) (t rest : Bytes) → parts t ≡ false → parts rest ≡ true → t ≡ all_spelt es ++ rest
    → 0 < length es
starts_with_element [] t rest h k e = impossible (sym h ∙ ap parts e ∙ k)
starts_with_element (x ∷ es) t rest h k e = omega arith

from_bare : (n : ℕ) (t : Bytes) (s : Step) → parts t ≡ false → Back BareElement [] t s → StepBack (suc n) t s
unfolding all
from_bare n t (item x ps) h r =
    record {
      blanks = [];
      spelling = bare r.list;
      rest = r.rest;
      offset = r.offset;
      text = r.text;
      all_blank = refl;
      sound_item = (starts_with_element r.list t r.rest h r.ends r.text, r.elements);
      means = r.means;
      pieces_left = r.pieces;
      ends = r.ends;
      may_come = omega arith;
    }
from_bare n t end h r = absurd r
from_bare n t (refusal m p) h r = tt

from_quoted : (n q : ℕ) (t : Bytes) (s : Step) → quote q ≡ true → Back (QuotedElement q) (q ∷ []) t s → StepBack (suc n) (q ∷ t) s
unfolding all
from_quoted n q t (item x ps) h r =
    record {
      blanks = [];
      spelling = quoted q r.list;
      rest = r.rest;
      offset = r.offset;
      text = rw (r.text, append_assoc (all_spelt r.list) (q ∷ []) r.rest);
      all_blank = refl;
      sound_item = (h, r.elements);
      means = r.means;
      pieces_left = r.pieces;
      ends = r.ends;
      may_come = omega arith;
    }
from_quoted n q t end h r = absurd r
from_quoted n q t (refusal m p) h r = tt

-- where no blank comes first
begun_back : (n at b : ℕ) (t : Bytes) → blank b ≡ false → StepBack n (b ∷ t) (step n (pieces_from 0 at (b ∷ t)))
unfolding step past_blanks begun parts
begun_back zero at b t h = let f = begins at (b ∷ t) h in rw (f.pieces, f.no_blank) tt
begun_back (suc n) at b t h =
    by_cases (quote b)
    (λ y. rw (step_quote n at b t y) (from_quoted n b t (quoted_item b at (pieces_from 0 (suc at) t)) y (quoted_back b at (read (suc at) t))))
    (λ y. rw (step_bare n at b t h y) (from_bare n (b ∷ t) (bare_item (pieces_from 0 at (b ∷ t))) h (bare_back (read at (b ∷ t)))))

blank_back : (n b : ℕ) (t : Bytes) (s : Step) → blank b ≡ true → StepBack n t s → StepBack n (b ∷ t) s
unfolding all
blank_back n b t (item x ps) h r =
    record {
      blanks = b ∷ r.blanks;
      spelling = r.spelling;
      rest = r.rest;
      offset = r.offset;
      text = ap (λ (t : Bytes). b ∷ t) r.text;
      all_blank = both (blank b) (all blank r.blanks) h r.all_blank;
      sound_item = r.sound_item;
      means = r.means;
      pieces_left = r.pieces_left;
      ends = r.ends;
      may_come = r.may_come;
    }
blank_back n b t end h r = both (blank b) (all blank t) h r
blank_back n b t (refusal m p) h r = tt

step_back : (t : Bytes) (n at : ℕ) → StepBack n t (step n (pieces_from 0 at t))
unfolding all
step_back [] n at = rw (step_end n at) refl
step_back (b ∷ t) n at =
    let again = step_back t n (suc at) in
    by_cases (blank b)
    (λ y. rw (step-blank n at b t y) (blank_back n b t (step n (pieces_from 0 (suc at) t)) y again))
    (λ y. begun_back n at b t y)

-- ---- all items

blanks_before : (a : Bytes) {t : Bytes} {xs : List Bytes} → all blank a ≡ true → Listed t xs → Listed (a ++ t) xs
unfolding all
blanks_before [] h r = r
blanks_before (b ∷ a) h r = blank-before b (and_left (blank b) (all blank a) h) (blanks_before a (and_right (blank b) (all blank a) h) r)

-- blanks alone
blanks_listed : (t : Bytes) → all blank t ≡ true → Listed t []
blanks_listed t h = rw append-nil at (blanks_before t h none_listed)

-- at most n items, where they are accepted
abbrev ItemsBack : ℕ → Bytes → Outcome (List Bytes) → Type 0
ItemsBack n t (accepted xs) = Listed t xs × (length xs ≤ n)
ItemsBack n t (refused m p) = Unit {0}

taken_back : {n : ℕ} {t x : Bytes} {ps : List Piece} (r : Taken (suc n) t x ps) (o : Outcome (List Bytes)) → ItemsBack n r.rest o
    → ItemsBack (suc n) t (with_item x o)
taken_back r (refused m p) h = tt
taken_back r (accepted xs) h = (
  rw (r.text, r.means) (blanks_before r.blanks r.all_blank (item_before r.spelling r.sound_item r.ends h.0)),
  omega arith,
)

items_back : (n : ℕ) (at : ℕ) (t : Bytes) → ItemsBack n t (items_of n (pieces_from 0 at t))
unfolding items_of collected
items_back zero at t = go (step zero (pieces_from 0 at t)) (step_back t zero at)
  where
    go : (s : Step) → StepBack zero t s → ItemsBack zero t (collected s (λ rest. accepted []))
    go (item x ps) r = absurd (omega arith)
    go end r = (blanks_listed t r, omega arith)
    go (refusal m p) r = tt
items_back (suc n) at t = go (λ at t. items_back n at t) (step (suc n) (pieces_from 0 at t)) (step_back t (suc n) at)
  where
    go : ((at : ℕ) (t : Bytes) → ItemsBack n t (items_of n (pieces_from 0 at t))) → (s : Step) → StepBack (suc n) t s
        → ItemsBack (suc n) t (collected s (items_of n))
    go again (item x ps) r =
        rw r.pieces_left (taken_back r (items_of n (pieces_from 0 r.offset r.rest)) (again r.offset r.rest))
    go again end r = (blanks_listed t r, omega arith)
    go again (refusal m p) r = tt

pub split_spelled : (t : Bytes) (xs : List Bytes) → split_of t ≡ accepted xs → Spelled t xs
unfolding split_of pieces
split_spelled t xs h =
    by_cases (ltb 4096 (length t))
    (λ y. let z : refused 20 0 ≡ accepted xs = rw y at h in clash cc)
    (λ y. by_cases (any forbidden t)
    (λ z. let w : refused 21 (first_forbidden t) ≡ accepted xs = rw (y, z) at h in clash cc)
    (λ z. let w : items_of 256 (pieces_from 0 0 t) ≡ accepted xs = rw (y, z) at h in
    let r : ItemsBack 256 t (accepted xs) = rw w at (items_back 256 0 t) in
    listed_spelled r.1 (ltb-false 4096 (length t) y) (not-false _ (sym (any-all forbidden t) ∙ z)) r.0))
