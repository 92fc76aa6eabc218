-- The elements of an item, as they are spelled. Each is one piece, and reading it brings what it means; so reading
-- elements that nothing or a blank follows brings the item.
use mathlib.Core.Path.{◌≡◌, refl, ◌∙◌}
use Prim.Native.Nat.{ℕ, suc, ◌+◌}
use native.Mathlib.Nat.{zero-add}
use native.Mathlib.Omega.{arith}
use mathlib.Core.Bool.{Bool, true, false}
use mathlib.Core.List.{List, [], ◌∷◌, ◌++◌, append_assoc}
use lib.ListN.{length, length-append}
use lib.Seq.{drop-append_seam}
use borrow.Author.Tests.{eq-eqb}
use Rattle.lines.specs.Bytes.{Bytes, blank}
use Rattle.lines.specs.Answers.{accepted}
use Rattle.lines.specs.Laws.{All}
use Rattle.lines.proofs.Bools.{neq_byte}
use Rattle.items.specs.Pieces.{Piece, plain, escaped, backslash, quote, pieces_from}
use Rattle.items.specs.Split.{item, with_bytes, with_escape, bare_item, closed_item, quoted_item}
use Rattle.items.specs.Grammar.{Element, itself, escaping, spelt, meant, Gives, BareElement, QuotedElement, all_spelt, all_meant}
use Rattle.items.proofs.PieceLaws.{pieces_nil, pieces-plain, pieces-escape}

-- ---- one element

-- the piece at an offset
abbrev pub piece_of : ℕ → Element → Piece
piece_of at (itself b) = plain at b
piece_of at (escaping t bs) = escaped at (accepted (record { bytes = bs; taken = length t }))

-- it is one piece, wherever it stands
abbrev pub OnePiece : Element → Type 0
OnePiece (itself b) = backslash b ≡ false
OnePiece (escaping t bs) = Gives t bs

pub element_piece : (e : Element) (at : ℕ) (t : Bytes) → OnePiece e
    → pieces_from 0 at (spelt e ++ t) ≡ piece_of at e ∷ pieces_from 0 (length (spelt e) + at) t
element_piece (itself b) at t h =
    let n : 1 + at ≡ suc at = omega arith in
    rw n (pieces-plain at b t h)
element_piece (escaping u bs) at t h =
    let n : suc (length u) + at ≡ length u + suc at = omega arith in
    pieces-escape at 0x5C (u ++ t) (record { bytes = bs; taken = length u }) refl (h at t) ∙ rw (n, drop-append_seam u t)

pub bare_piece : (e : Element) → BareElement e → OnePiece e
bare_piece (itself b) h = h.2
bare_piece (escaping u bs) h = h

pub quoted_piece : (q : ℕ) (e : Element) → QuotedElement q e → OnePiece e
quoted_piece q (itself b) h = h.1
quoted_piece q (escaping u bs) h = h

pub bare_element : (e : Element) (at : ℕ) (ps : List Piece) → BareElement e
    → bare_item (piece_of at e ∷ ps) ≡ with_bytes (meant e) (bare_item ps)
unfolding bare_item with_escape
bare_element (itself b) at ps h = rw (h.0, h.1)
bare_element (escaping u bs) at ps h = refl

pub quoted_element : (q o : ℕ) (e : Element) (at : ℕ) (ps : List Piece) → QuotedElement q e
    → quoted_item q o (piece_of at e ∷ ps) ≡ with_bytes (meant e) (quoted_item q o ps)
unfolding quoted_item with_escape
quoted_element q o (itself b) at ps h = rw h.0
quoted_element q o (escaping u bs) at ps h = refl

-- ---- elements up to the end of an item

-- nothing, or a blank first: an item ends before such a text
unfoldable pub parts : Bytes → Bool
parts [] = true
parts (b ∷ t) = blank b

pub bare_end : (t : Bytes) (at : ℕ) → parts t ≡ true → bare_item (pieces_from 0 at t) ≡ item [] (pieces_from 0 at t)
unfolding parts bare_item
bare_end [] at h = rw (pieces_nil at)
bare_end (b ∷ t) at h = rw (pieces-plain at b t (neq_byte blank 0x5C b refl h), h)

pub closed_end : (t : Bytes) (at : ℕ) → parts t ≡ true → closed_item (pieces_from 0 at t) ≡ item [] (pieces_from 0 at t)
unfolding parts closed_item
closed_end [] at h = rw (pieces_nil at)
closed_end (b ∷ t) at h = rw (pieces-plain at b t (neq_byte blank 0x5C b refl h), h)

-- one offset behind both
behind_both : (a b : Bytes) (at : ℕ) → length b + (length a + at) ≡ length (a ++ b) + at
behind_both a b at = simp length-append (omega arith)

pub bare_elements : (es : List Element) (at : ℕ) (t : Bytes) → All BareElement es → parts t ≡ true
    → bare_item (pieces_from 0 at (all_spelt es ++ t)) ≡ item (all_meant es) (pieces_from 0 (length (all_spelt es) + at) t)
unfolding with_bytes
bare_elements [] at t h p = rw (zero-add at) (bare_end t at p)
bare_elements (e ∷ es) at t h p =
    rw (
      append_assoc (spelt e) (all_spelt es) t,
      element_piece e at (all_spelt es ++ t) (bare_piece e h.0),
      bare_element e at (pieces_from 0 (length (spelt e) + at) (all_spelt es ++ t)) h.0,
      bare_elements es (length (spelt e) + at) t h.1 p,
      behind_both (spelt e) (all_spelt es) at,
    )

pub quoted_elements : (q o : ℕ) (es : List Element) (at : ℕ) (t : Bytes) → quote q ≡ true → All (QuotedElement q) es → parts t ≡ true
    → quoted_item q o (pieces_from 0 at (all_spelt es ++ q ∷ t))
    ≡ item (all_meant es) (pieces_from 0 (suc (length (all_spelt es) + at)) t)
unfolding with_bytes quoted_item
quoted_elements q o [] at t k h p =
    rw (zero-add at, pieces-plain at q t (neq_byte quote 0x5C q refl k), eq-eqb q q refl) (closed_end t (suc at) p)
quoted_elements q o (e ∷ es) at t k h p =
    rw (
      append_assoc (spelt e) (all_spelt es) (q ∷ t),
      element_piece e at (all_spelt es ++ q ∷ t) (quoted_piece q e h.0),
      quoted_element q o e at (pieces_from 0 (length (spelt e) + at) (all_spelt es ++ q ∷ t)) h.0,
      quoted_elements q o es (length (spelt e) + at) t k h.1 p,
      behind_both (spelt e) (all_spelt es) at,
    )
