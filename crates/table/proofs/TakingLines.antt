-- One logical line more in a table that the buffers hold: its kind, by the tests that the code makes on its bytes.
use Rattle.std.specs.Prelude.{Ok, Err, Result}
use Rattle.std.proofs.Common.{◌≡◌, ℕ, suc, ◌+◌, ◌-◌, ◌<◌, ◌≤◌, true, false, eqb, [], ◌∷◌, ◌++◌, length, get_or, take, drop, sym, refl, ap, ◌∙◌, subst, arith, length-append, length-take, take_at, eq-eqb, ne_eqb}
use Rattle.lines.specs.Bytes.{Bytes, key_byte, any}
use Rattle.lines.specs.Trim.{trim_start, trim_end, trimmed}
use Rattle.lines.proofs.Bools.{by_cases, is_false}
use Rattle.lines.proofs.Slices.{part_from}
use Rattle.lines.proofs.Trimming.{length-trim_start, length-trim_end, length_trim}
use Rattle.table.specs.LineKinds.{Kind, entry, fault, one_or_more, before, behind, header_kind, is_equals_sign, key_of, value_of, entry_kind, kind}
use Rattle.table.specs.Tables.{act}
use Rattle.table.specs.Steps.{TakesLine}
use Rattle.table.specs.Answers.{number_of, place_of}
use Rattle.table.specs.declared.builder.Builder.{Builder}
use Rattle.table.specs.declared.error.Error.{Error}
use Rattle.table.proofs.Parts.{parted}

-- a line is taken for the kind that it is
pub as_kind : (k k' : Kind) (n : ℕ) (b : Builder) (r : Result (Unit {0}) Error) (b' : Builder) → k ≡ k' → TakesLine k n b r b' → TakesLine k' n b r b'
as_kind k k' n b r b' e h = subst (λ (z : Kind). TakesLine z n b r b') e h

-- a line that is a fault is refused
pub fault_refused : (k : Kind) (c : ℕ) (n : ℕ) (b b' : Builder) (w : Error) → k ≡ fault c → number_of w ≡ c → place_of w ≡ n
    → TakesLine k n b (Err w) b'
unfolding act
fault_refused k c n b b' w e p q t d f g h = rw (e, p, q)

-- ---- another line

-- with a sign before its end
sign_there : (l : Bytes) → length (before 0x3D l) < length l → any is_equals_sign l ≡ true
unfolding before any
sign_there [] h = absurd (omega arith)
sign_there (b ∷ bs) h =
    by_cases (eqb b 0x3D) (λ e. rw e)
    (λ e. rw e (sign_there bs (let k : length (before 0x3D (b ∷ bs)) ≡ suc (length (before 0x3D bs)) = rw e in omega (arith, h, k))))

-- without one
no_sign : (l : Bytes) → length (before 0x3D l) ≡ length l → any is_equals_sign l ≡ false
no_sign l h =
    is_false (any is_equals_sign l)
    (λ e. omega (arith, ap length (parted 0x3D l e), length-append (before 0x3D l) (0x3D ∷ behind 0x3D l)))

module _ (l : Bytes) (at : ℕ) (f : at ≡ length (before 0x3D l)) (h : at < length l) where
  there : any is_equals_sign l ≡ true
  there = sign_there l (omega arith)

  -- the parts that the code lends
  key_part : take at l ≡ before 0x3D l
  key_part =
      ap (take at) (parted 0x3D l there) ∙ take_at (before 0x3D l) (0x3D ∷ behind 0x3D l) at (sym f)

  value-part : take (length l - (at + 1)) (drop (at + 1) l) ≡ behind 0x3D l
  value-part =
      let e : at + 1 ≡ suc at = omega arith in
      part_from (at + 1) l ∙ rw e (ap (drop (suc at)) (parted 0x3D l there) ∙ drop-behind (before 0x3D l) at f)
    where
      drop-behind : (a : Bytes) (n : ℕ) → n ≡ length a → drop (suc n) (a ++ 0x3D ∷ behind 0x3D l) ≡ behind 0x3D l
      drop-behind a n q = rw q (go a)
        where
          go : (a : Bytes) → drop (suc (length a)) (a ++ 0x3D ∷ behind 0x3D l) ≡ behind 0x3D l
          go [] = refl
          go (b ∷ bs) = go bs

  module _ (k v : Bytes) (p : k ≡ trim_end (take at l)) (q : v ≡ trim_start (take (length l - (at + 1)) (drop (at + 1) l))) where
    key_is : k ≡ key_of l
    unfolding key_of
    key_is = p ∙ ap trim_end key_part

    value_is : v ≡ value_of l
    unfolding value_of
    value_is = q ∙ ap trim_start value-part

    -- they fit where the line did
    pub parts_fit : length k + length v ≤ length l
    parts_fit =
        let a : length k ≤ length (take at l) = rw p (length-trim_end (take at l)) in
        let b : length v ≤ length (take (length l - (at + 1)) (drop (at + 1) l)) = rw q (length-trim_start (take (length l - (at + 1)) (drop (at + 1) l))) in
        omega (arith, a, b, length-take at l, length-take (length l - (at + 1)) (drop (at + 1) l))

    pub key_bad : one_or_more key_byte k ≡ false → entry_kind l ≡ fault 8
    unfolding entry_kind
    key_bad e =
        let m : one_or_more key_byte (key_of l) ≡ false = ap (one_or_more key_byte) (sym key_is) ∙ e in
        rw (there, m)

    pub key_good : one_or_more key_byte k ≡ true → entry k v ≡ entry_kind l
    unfolding entry_kind
    key_good e =
        let m : one_or_more key_byte (key_of l) ≡ true = ap (one_or_more key_byte) (sym key_is) ∙ e in
        rw (key_is, value_is, there, m)

pub sign_missing : (l : Bytes) → length (before 0x3D l) ≡ length l → entry_kind l ≡ fault 7
unfolding entry_kind
sign_missing l f = rw (no_sign l f)

-- ---- any line

pub line_empty : (l : Bytes) (n : ℕ) (b : Builder) → length l ≡ 0 → TakesLine (kind l) n b (Ok tt) b
unfolding kind act
line_empty [] n b e t d f g h = (t, refl, h)
line_empty (x ∷ xs) n b e t d f g h = absurd (omega arith)

module _ (l : Bytes) (m : 0 < length l) where
  first : (q : Kind) → ((b : ℕ) (bs : Bytes) → l ≡ b ∷ bs → kind (b ∷ bs) ≡ q) → kind l ≡ q
  first q f = go l m f
    where
      go : (l : Bytes) → 0 < length l → ((b : ℕ) (bs : Bytes) → l ≡ b ∷ bs → kind (b ∷ bs) ≡ q) → kind l ≡ q
      go [] h f = absurd (omega arith)
      go (b ∷ bs) h f = f b bs refl

  pub starts_header : get_or l 0 0 ≡ 0x5B → kind l ≡ header_kind (take (length l - 1) (drop 1 l))
  unfolding kind
  starts_header e =
      first (header_kind (drop 1 l))
      (λ b bs q. let z : eqb b 0x5B ≡ true = ap (λ (x : Bytes). eqb (get_or x 0 0) 0x5B) (sym q) ∙ eq-eqb _ _ e in rw (z, q))
      ∙ ap header_kind (sym (part_from 1 l))

  pub starts_entry : (get_or l 0 0 ≡ 0x5B → ⊥) → kind l ≡ entry_kind l
  unfolding kind
  starts_entry e = first (entry_kind l) (λ b bs q. let z : eqb b 0x5B ≡ false = ap (λ (x : Bytes). eqb (get_or x 0 0) 0x5B) (sym q) ∙ ne_eqb _ _ e in rw (z, q))

-- they fit where the line did
pub trimmed-fits : (m l : Bytes) (used n : ℕ) → m ≡ trimmed l → used + length l ≤ n → used + length m ≤ n
trimmed-fits m l used n e h = omega (arith, ap length e, length_trim l)

pub rest_fits : (m l : Bytes) (used n : ℕ) → m ≡ trimmed l → used + length l ≤ n → used + length (take (length m - 1) (drop 1 m)) ≤ n
rest_fits m l used n e h = omega (arith, trimmed-fits m l used n e h, length-take (length m - 1) (drop 1 m))
