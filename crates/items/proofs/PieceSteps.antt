-- What stands at an offset of a text, as a piece, and what it does to the rest of an item.
use mathlib.Core.Path.{◌≡◌, refl, sym, ap, ◌∙◌}
use Prim.Native.Nat.{ℕ, suc, ◌+◌, ◌≤◌, ◌<◌}
use native.Mathlib.Numerals.{add-one}
use native.Mathlib.Omega.{arith}
use mathlib.Core.Bool.{Bool, true, false}
use mathlib.Core.List.{List, [], ◌∷◌}
use lib.ListN.{length, drop, get_or, drop_of_length-le, length-drop}
use lib.Seq.{drop-drop}
use Rattle.std.specs.Prelude.{Result, Ok, Err}
use borrow.Author.Tests.{eq-eqb, ne_eqb}
use Rattle.lines.specs.Bytes.{Bytes, blank}
use Rattle.lines.specs.Answers.{accepted, refused}
use Rattle.lines.proofs.Bools.{by_cases, neq_byte}
use Rattle.lines.proofs.Slices.{opened}
use Rattle.items.specs.Escapes.{Escaped, escape}
use Rattle.items.specs.Pieces.{Piece, plain, escaped, offset_of, blank_piece, backslash, quote, behind, pieces_from}
use Rattle.items.specs.Split.{item, refusal, with_bytes, bare_item, closed_item, quoted_item, past_blanks}
use Rattle.items.specs.Steps.{few_bytes, pieces_at, rest_of, PlainAt, BytesAt, EndsAt, PieceAt, ClosedAt}
use Rattle.items.specs.declared.few.Few.{Few}
use Rattle.items.specs.declared.pieces.Mode.{Mode}
use Rattle.items.specs.declared.pieces.Mode.TheVariants.{Bare, Quoted}
use Rattle.items.specs.declared.pieces.Piece as code
use Rattle.items.specs.declared.pieces.Piece.TheVariants.{Plain as PiecePlain, Bytes as PieceBytes, End as PieceEnd}
use Rattle.items.specs.declared.error.Error.{Error}
use Rattle.items.proofs.EscapeSteps.{Sized, escape-sized}
use Rattle.items.proofs.PieceLaws.{pieces_nil, pieces-plain, pieces-escape, pieces_refused}

-- ---- one piece

module _ (t : Bytes) (at : ℕ) where
  pub at_end : length t ≤ at → pieces_at t at ≡ []
  unfolding pieces_at
  at_end h = rw (drop_of_length-le t h) (pieces_nil at)

  module _ (h : at < length t) where
    pub at_plain : backslash (get_or t at 0) ≡ false → pieces_at t at ≡ plain at (get_or t at 0) ∷ pieces_at t (at + 1)
    unfolding pieces_at
    at_plain e = rw (opened t at h, pieces-plain at (get_or t at 0) (drop (at + 1) t) e, add-one)

    module _ (e : backslash (get_or t at 0) ≡ true) where
      pub at_escape : (s : Escaped) → escape at (drop (at + 1) t) ≡ accepted s
          → pieces_at t at ≡ escaped at (accepted s) ∷ pieces_at t (at + 1 + s.taken)
      unfolding pieces_at
      at_escape s q =
          let k : s.taken + suc at ≡ at + 1 + s.taken = omega arith in
          rw (opened t at h, pieces-escape at (get_or t at 0) (drop (at + 1) t) s e q, drop-drop s.taken (at + 1) t, k)

      pub at_refused : (n p : ℕ) → escape at (drop (at + 1) t) ≡ refused n p → pieces_at t at ≡ escaped at (refused n p) ∷ []
      unfolding pieces_at
      at_refused n p q = rw (opened t at h, pieces_refused at (get_or t at 0) (drop (at + 1) t) n p e q)

-- ---- an escape in the rest of an item

rest_escape : (m : Mode) (at : ℕ) (s : Escaped) (ps : List Piece)
    → rest_of m (escaped at (accepted s) ∷ ps) ≡ with_bytes s.bytes (rest_of m ps)
unfolding rest_of bare_item quoted_item
rest_escape Bare at s ps = refl
rest_escape (Quoted q o) at s ps = refl

rest_refused : (m : Mode) (at n p : ℕ) (ps : List Piece) → rest_of m (escaped at (refused n p) ∷ ps) ≡ refusal n p
unfolding rest_of bare_item quoted_item
rest_refused Bare at n p ps = refl
rest_refused (Quoted q o) at n p ps = refl

module _ (t : Bytes) (at : ℕ) (h : at < length t) (e : backslash (get_or t at 0) ≡ true) where
  module _ (f : Few) (n : ℕ) (q : escape at (drop (at + 1) t) ≡ accepted (record { bytes = few_bytes f; taken = n })) where
    sizes : Sized (length (drop (at + 1) t)) (accepted (record { bytes = few_bytes f; taken = n }))
    sizes = rw q at (escape-sized at (drop (at + 1) t))

    pub escape-inside : at + 1 + n ≤ length t
    escape-inside = omega (arith, sizes.0, length-drop (at + 1) t)

    pub escape-bytes : (m : Mode) → BytesAt m t at f (at + 1 + n)
    escape-bytes m =
        record {
          step = ap (rest_of m) (at_escape t at h e _ q) ∙ rest_escape m at _ (pieces_at t (at + 1 + n));
          fits = omega (arith, sizes.1);
          later = omega arith;
          inside = escape-inside;
        }

  pub escape_wrong : (n p : ℕ) → escape at (drop (at + 1) t) ≡ refused n p → (m : Mode) → rest_of m (pieces_at t at) ≡ refusal n p
  escape_wrong n p q m = ap (rest_of m) (at_refused t at h e n p q) ∙ rest_refused m at n p []

-- ---- a byte that stands for itself

pub not_backslash : (p : ℕ → Bool) (b : ℕ) → p 0x5C ≡ false → p b ≡ true → backslash b ≡ false
not_backslash p b f y = neq_byte p 0x5C b f y

module _ (t : Bytes) (at : ℕ) where
  pub bare_over : length t ≤ at → at ≤ length t → EndsAt Bare t at at
  unfolding rest_of bare_item
  bare_over h k = record { step = rw (at_end t at h); later = omega arith; inside = k }

  pub quoted_over : (q o : ℕ) → length t ≤ at → rest_of (Quoted q o) (pieces_at t at) ≡ refusal 23 o
  unfolding rest_of quoted_item
  quoted_over q o h = rw (at_end t at h)

  pub closed_over : length t ≤ at → closed_item (pieces_at t at) ≡ item [] (pieces_at t at)
  unfolding closed_item
  closed_over h = rw (at_end t at h)

  module _ (h : at < length t) where
    -- the piece at an offset where no blank stands
    pub record Nonblank : Type 0 where
      pub piece : Piece
      pub others : List Piece
      pub pieces_are : pieces_at t at ≡ piece ∷ others
      pub offset_is : offset_of piece ≡ at
      pub no_blank : blank_piece piece ≡ false

    -- an escape, whether accepted or not
    pub some_escape : backslash (get_or t at 0) ≡ true
        → (ps : List Piece) × (pieces_at t at ≡ escaped at (escape at (drop (at + 1) t)) ∷ ps)
    unfolding pieces_at pieces_from
    some_escape y =
        (behind (escape at (drop (at + 1) t)) (λ k. pieces_from k (suc at) (drop (at + 1) t)), rw (opened t at h, y))

    pub nonblank : blank (get_or t at 0) ≡ false → Nonblank
    nonblank e =
        by_cases (backslash (get_or t at 0))
        (λ y. let s = some_escape y in
        record { piece = escaped at (escape at (drop (at + 1) t)); others = s.0; pieces_are = s.1; offset_is = refl; no_blank = refl })
        (λ n. record { piece = plain at (get_or t at 0); others = pieces_at t (at + 1); pieces_are = at_plain t at h n; offset_is = refl; no_blank = e })

    pub closed_stray : blank (get_or t at 0) ≡ false → closed_item (pieces_at t at) ≡ refusal 22 at
    unfolding closed_item
    closed_stray e = let n = nonblank e in rw (n.pieces_are, n.no_blank, n.offset_is)

    module _ (e : blank (get_or t at 0) ≡ true) where
      plain-blank : pieces_at t at ≡ plain at (get_or t at 0) ∷ pieces_at t (at + 1)
      plain-blank = at_plain t at h (not_backslash blank (get_or t at 0) refl e)

      pub closed_blank : closed_item (pieces_at t at) ≡ item [] (pieces_at t at)
      unfolding closed_item
      closed_blank = rw (plain-blank, e)

      pub bare_blank : EndsAt Bare t at at
      unfolding rest_of bare_item
      bare_blank = record { step = rw (plain-blank, e); later = omega arith; inside = omega arith }

      pub blank_passed : past_blanks (pieces_at t at) ≡ past_blanks (pieces_at t (at + 1))
      unfolding past_blanks
      blank_passed = rw (plain-blank, e)

    pub bare_quote : blank (get_or t at 0) ≡ false → quote (get_or t at 0) ≡ true → rest_of Bare (pieces_at t at) ≡ refusal 22 at
    unfolding rest_of bare_item
    bare_quote b q = rw (at_plain t at h (not_backslash quote (get_or t at 0) refl q), b, q)

    module _ (n : backslash (get_or t at 0) ≡ false) where
      pub quoted_closes : (q o : ℕ) → get_or t at 0 ≡ q → rest_of (Quoted q o) (pieces_at t at) ≡ closed_item (pieces_at t (at + 1))
      unfolding rest_of quoted_item
      quoted_closes q o e = rw (at_plain t at h n, eq-eqb (get_or t at 0) q e)

      pub bare_byte_lem : blank (get_or t at 0) ≡ false → quote (get_or t at 0) ≡ false → PlainAt Bare t at (get_or t at 0)
      unfolding rest_of bare_item
      bare_byte_lem b q = record { step = rw (at_plain t at h n, b, q); inside = h }

      pub quoted_byte : (q o : ℕ) → (get_or t at 0 ≡ q → ⊥) → PlainAt (Quoted q o) t at (get_or t at 0)
      unfolding rest_of quoted_item
      quoted_byte q o e = record { step = rw (at_plain t at h n, ne_eqb (get_or t at 0) q e); inside = h }

-- ---- what the code's answers say

-- behind a quote that closes the item
pub quoted_closed : (t : Bytes) (at q o : ℕ) (h : at < length t) → backslash (get_or t at 0) ≡ false → get_or t at 0 ≡ q
    → (r : Result code.Piece Error) → ClosedAt t (at + 1) r → PieceAt (Quoted q o) t at r
quoted_closed t at q o h n e (Ok (PiecePlain b)) c = absurd c
quoted_closed t at q o h n e (Ok (PieceBytes f next)) c = absurd c
quoted_closed t at q o h n e (Ok (PieceEnd next)) c =
    record {
      step = quoted_closes t at h n q o e ∙ c.0 ∙ ap (λ (k : ℕ). item [] (pieces_at t k)) (sym c.1);
      later = omega (arith, c.1);
      inside = omega (arith, c.1);
    }
quoted_closed t at q o h n e (Err d) c = quoted_closes t at h n q o e ∙ c
