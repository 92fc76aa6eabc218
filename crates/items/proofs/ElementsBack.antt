-- What is read as an item is spelled by elements. Every text is a run of elements, up to its end or to an escape that
-- is refused; reading goes along them, and says of each what it has to be in an item.
use mathlib.Core.Path.{◌≡◌, refl, sym, ap}
use Prim.Native.Nat.{ℕ, zero, suc, ◌+◌, ◌≤◌}
use native.Mathlib.Omega.{arith}
use mathlib.Core.Bool.{true, false}
use mathlib.Core.List.{List, [], ◌∷◌, ◌++◌, append_assoc}
use lib.ListN.{length, take, drop, length-drop, take-append-drop}
use lib.Dec.{eqb}
use borrow.Author.Tests.{eqb-true}
use Rattle.lines.specs.Bytes.{Bytes, blank}
use Rattle.lines.specs.Answers.{Outcome, accepted, refused}
use Rattle.lines.specs.Laws.{All}
use Rattle.lines.proofs.Bools.{by_cases, impossible}
use Rattle.items.specs.Escapes.{Escaped, escape}
use Rattle.items.specs.Pieces.{Piece, plain, escaped, blank_piece, backslash, quote, behind, pieces_from}
use Rattle.items.specs.Split.{Step, item, end, refusal, with_bytes, with_escape, bare_item, closed_item, quoted_item}
use Rattle.items.specs.Grammar.{Element, itself, escaping, spelt, meant, BareElement, QuotedElement, all_spelt, all_meant}
use Rattle.items.proofs.Escaping.{escape_gives}
use Rattle.items.proofs.PieceLaws.{pieces_nil, pieces_refused}
use Rattle.items.proofs.Elements.{OnePiece, element_piece, parts, closed_end}

-- ---- a text as elements

-- from an offset on: elements, up to the end or to a refused escape
pub data Read : ℕ → Bytes → Type 0 where
  nothing : (at : ℕ) → Read at []
  element : (e : Element) (at : ℕ) (t : Bytes) → OnePiece e → Read (length (spelt e) + at) t → Read at (spelt e ++ t)
  refusing : (at : ℕ) (t : Bytes) (n p : ℕ) → escape at t ≡ refused n p → Read at (0x5C ∷ t)

read_within : (n : ℕ) (at : ℕ) (t : Bytes) → length t ≤ n → Read at t
read_within zero at [] h = nothing at
read_within zero at (b ∷ t) h = absurd (omega arith)
read_within (suc n) at [] h = nothing at
read_within (suc n) at (b ∷ t) h =
    let again : (at : ℕ) (u : Bytes) → length u ≤ n → Read at u = read_within n in
    by_cases (backslash b)
    (λ y. rw (eqb-true b 0x5C y) (go again (escape at t) refl))
    (λ y. element (itself b) at t y (again (1 + at) t (omega arith)))
  where
    go : ((at : ℕ) (u : Bytes) → length u ≤ n → Read at u) → (o : Outcome Escaped) → escape at t ≡ o → Read at (0x5C ∷ t)
    go again (refused m p) e = refusing at t m p e
    go again (accepted x) e =
        let g = escape_gives at t x e in
        let k : ℕ = x.taken in
        let l : length (drop k t) ≤ n = simp length-drop (omega arith) in
        let r : Read at (0x5C ∷ take k t ++ drop k t) =
        element (escaping (take k t) x.bytes) at (drop k t) g.1 (again (suc (length (take k t)) + at) (drop k t) l) in
        rw take-append-drop at r

pub read : (at : ℕ) (t : Bytes) → Read at t
read at t = read_within (length t) at t (omega arith)

-- where neither the end nor a blank comes first, a piece does that is no blank
pub record Begins (at : ℕ) (t : Bytes) : Type 0 where
  pub first : Piece
  pub others : List Piece
  pub pieces : pieces_from 0 at t ≡ first ∷ others
  pub no_blank : blank_piece first ≡ false

pub begins : (at : ℕ) (t : Bytes) → parts t ≡ false → Begins at t
unfolding parts pieces_from
begins at [] h = impossible (sym h)
begins at (b ∷ t) h =
    by_cases (backslash b)
    (λ y. record { first = escaped at (escape at t); others = behind (escape at t) (λ k. pieces_from k (suc at) t); pieces = rw y; no_blank = refl })
    (λ y. record { first = plain at b; others = pieces_from 0 (suc at) t; pieces = rw y; no_blank = h })

-- ---- an item read from a text

-- elements of a kind, then closing bytes, then the text that is left, with its pieces
pub record ReadBack (In : Element → Type 0) (close t x : Bytes) (ps : List Piece) : Type 0 where
  pub list : List Element
  pub rest : Bytes
  pub offset : ℕ
  pub text : t ≡ all_spelt list ++ (close ++ rest)
  pub elements : All In list
  pub means : x ≡ all_meant list
  pub pieces : ps ≡ pieces_from 0 offset rest
  pub ends : parts rest ≡ true

-- what a step says of the text; inside an item it never finds the end
abbrev pub Back : (Element → Type 0) → Bytes → Bytes → Step → Type 0
Back In close t (item x ps) = ReadBack In close t x ps
Back In close t end = ⊥
Back In close t (refusal n p) = Unit {0}

-- an item ends here
end_back : (In : Element → Type 0) (close rest : Bytes) (at : ℕ) → parts rest ≡ true
    → ReadBack In close (close ++ rest) [] (pieces_from 0 at rest)
end_back In close rest at h =
    record { list = []; rest = rest; offset = at; text = refl; elements = tt; means = refl; pieces = refl; ends = h }

-- one more element in front
element_back : (In : Element → Type 0) (close : Bytes) (e : Element) (t : Bytes) (s : Step) → In e → Back In close t s
    → Back In close (spelt e ++ t) (with_bytes (meant e) s)
unfolding with_bytes
element_back In close e t (item x ps) h r =
    record {
      list = e ∷ r.list;
      rest = r.rest;
      offset = r.offset;
      text = rw r.text (sym (append_assoc (spelt e) (all_spelt r.list) (close ++ r.rest)));
      elements = (h, r.elements);
      means = ap (λ (x : Bytes). meant e ++ x) r.means;
      pieces = r.pieces;
      ends = r.ends;
    }
element_back In close e t end h r = r
element_back In close e t (refusal n p) h r = tt

pub bare_back : {at : ℕ} {t : Bytes} → Read at t → Back BareElement [] t (bare_item (pieces_from 0 at t))
unfolding bare_item with_escape parts
bare_back (nothing at) = rw (pieces_nil at, ← pieces_nil at) (end_back BareElement [] [] at refl)
bare_back (element (itself b) at t h r) =
    let ps : List Piece = pieces_from 0 (1 + at) t in
    let again = bare_back r in
    let x : pieces_from 0 at (b ∷ t) ≡ plain at b ∷ ps = element_piece (itself b) at t h in
    by_cases (blank b)
    (λ y. rw (x, y, ← x) (end_back BareElement [] (b ∷ t) at y))
    (λ y. by_cases (quote b)
    (λ z. rw (x, y, z) tt)
    (λ z. rw (x, y, z) (element_back BareElement [] (itself b) t (bare_item ps) (y, z, h) again)))
bare_back (element (escaping u bs) at t h r) =
    let again = bare_back r in
    rw (element_piece (escaping u bs) at t h)
    (element_back BareElement [] (escaping u bs) t (bare_item (pieces_from 0 (length (spelt (escaping u bs)) + at) t)) h again)
bare_back (refusing at t n p h) = rw (pieces_refused at 0x5C t n p refl h) tt

-- a blank or the end follows a closing quote
closed_back : (q at : ℕ) (t : Bytes) → Back (QuotedElement q) (q ∷ []) (q ∷ t) (closed_item (pieces_from 0 at t))
unfolding closed_item
closed_back q at t =
    by_cases (parts t)
    (λ y. rw (closed_end t at y) (end_back (QuotedElement q) (q ∷ []) t at y))
    (λ y. let b = begins at t y in rw (b.pieces, b.no_blank) tt)

pub quoted_back : (q o : ℕ) {at : ℕ} {t : Bytes} → Read at t → Back (QuotedElement q) (q ∷ []) t (quoted_item q o (pieces_from 0 at t))
unfolding quoted_item with_escape
quoted_back q o (nothing at) = rw (pieces_nil at) tt
quoted_back q o (element (itself b) at t h r) =
    let ps : List Piece = pieces_from 0 (1 + at) t in
    let again = quoted_back q o r in
    rw (element_piece (itself b) at t h)
    (by_cases (eqb b q)
    (λ y. rw (y, eqb-true b q y) (closed_back q (1 + at) t))
    (λ y. rw y (element_back (QuotedElement q) (q ∷ []) (itself b) t (quoted_item q o ps) (y, h) again)))
quoted_back q o (element (escaping u bs) at t h r) =
    let again = quoted_back q o r in
    rw (element_piece (escaping u bs) at t h)
    (element_back (QuotedElement q) (q ∷ []) (escaping u bs) t (quoted_item q o (pieces_from 0 (length (spelt (escaping u bs)) + at) t)) h again)
quoted_back q o (refusing at t n p h) = rw (pieces_refused at 0x5C t n p refl h) tt
