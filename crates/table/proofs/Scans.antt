-- Laws for the parts of a line: what the library says of its answers is what the definitions say.
use Rattle.std.proofs.Common.{◌≡◌, ℕ, ◌<◌, Bool, true, false, cond, ◌&&◌, eqb, [], ◌∷◌, ◌++◌, length, sym, refl, ap, add-one, arith, ne_eqb}
use Rattle.std.specs.Prelude.{Option, Some, None, unwrap_or, MatchOption}
use Rattle.std.specs.List.{AllWithin, HoldsAt, list_all}
use Rattle.std.proofs.lemmas.Iterator.{index_from_first}
use Rattle.lines.specs.Bytes.{Bytes, header_byte, all}
use Rattle.table.specs.LineKinds.{header, fault, one_or_more, ends_with, before, is_header, header_kind}
use Rattle.table.specs.Steps.{OffsetFound}
use Rattle.table.proofs.Parts.{without_last_made}

-- ---- one or more

module _ (p : ℕ → Bool) where
  same_all : (l : Bytes) → list_all p l ≡ all p l
  unfolding all
  same_all [] = refl
  same_all (b ∷ bs) = ap (λ r. p b && r) (same_all bs)

  -- no byte
  pub one_or_more-none : (l : Bytes) → length l ≡ 0 → one_or_more p l ≡ false
  unfolding one_or_more
  one_or_more-none [] h = refl
  one_or_more-none (b ∷ bs) h = absurd (omega arith)

  -- some, and each passes
  pub one_or_more-some : (l : Bytes) → (length l ≡ 0 → ⊥) → list_all p l ≡ one_or_more p l
  unfolding one_or_more
  one_or_more-some [] h = absurd (h refl)
  one_or_more-some (b ∷ bs) h = same_all (b ∷ bs)

-- ---- up to a byte

-- the first byte c, as `position` gives it
pub offset_found : (c : ℕ) (l : Bytes) (r : Option ℕ)
    → MatchOption r (AllWithin (λ b. eqb b c ≡ false) l 0 (length l)) (λ i. (i < length l) × HoldsAt (λ b. eqb b c ≡ true) l i × AllWithin (λ b. eqb b c ≡ false) l 0 i)
    → OffsetFound c l r
offset_found c l r h = go r h (unfold before in index_from_first (λ l. length (before c l)) (λ b. eqb b c ≡ true) (λ b. eqb b c ≡ false) refl (λ b bs e. rw e) (λ b bs e. rw (e, add-one)) l r h)
  where
    go : (r : Option ℕ)
        → MatchOption r (AllWithin (λ b. eqb b c ≡ false) l 0 (length l)) (λ i. (i < length l) × HoldsAt (λ b. eqb b c ≡ true) l i × AllWithin (λ b. eqb b c ≡ false) l 0 i)
        → length (before c l) ≡ unwrap_or r (length l) → OffsetFound c l r
    go (Some i) h e = (h.0, sym e)
    go None h e = e

-- ---- headers

ends_with_last : (c b : ℕ) (l : Bytes) → ends_with c (l ++ b ∷ []) ≡ eqb b c
unfolding ends_with
ends_with_last c b [] = refl
ends_with_last c b (d ∷ []) = refl
ends_with_last c b (d ∷ f ∷ fs) = ends_with_last c b (f ∷ fs)

-- no byte, or another byte than ] at the end
pub no_name : (l : Bytes) → length l ≡ 0 → header_kind l ≡ fault 6
unfolding header_kind is_header
no_name [] e = refl
no_name (b ∷ bs) e = absurd (omega arith)

pub no_bracket : (l x : Bytes) (b : ℕ) → l ≡ x ++ b ∷ [] → (b ≡ 0x5D → ⊥) → header_kind l ≡ fault 6
unfolding header_kind is_header
no_bracket l x b e h = rw (e, ends_with_last 0x5D b x, ne_eqb b 0x5D h)

-- what stands before a ] at the end decides
pub name_decides : (l x : Bytes) → l ≡ x ++ 0x5D ∷ [] → header_kind l ≡ cond (one_or_more header_byte x) (header x) (fault 6)
unfolding header_kind is_header
name_decides l x e = rw (e, ends_with_last 0x5D 0x5D x, without_last_made 0x5D x)
