-- What the kind of a line says of the line, and the kinds of lines that are put together: facts computed from the kind,
-- proved along its definition, and read off where the kind is known.
use Rattle.std.proofs.Common.{◌≡◌, ℕ, ◌+◌, ◌≤◌, Bool, true, false, not, ◌&&◌, eqb, [], ◌∷◌, ◌++◌, length, sym, refl, ap, ◌∙◌, subst, ap₂, append_assoc, arith, length-append, eqb-true}
use Rattle.lines.specs.Bytes.{Bytes, key_byte, header_byte, blank, all, any}
use Rattle.lines.specs.Trim.{trim_start, trim_end}
use Rattle.lines.proofs.Bools.{by_cases, and_left, and_right, both, impossible, neq_byte, all_append, all_imp}
use Rattle.lines.proofs.Trimming.{trim_start_idem, trim_start_blanks, trim_end_blanks, trim_end_nonblank}
use Rattle.table.specs.LineKinds.{Kind, empty, header, entry, fault, one_or_more, ends_with, without_last, before, behind, is_header, header_kind, is_equals_sign, key_of, value_of, entry_kind, kind}
use Rattle.table.specs.Laws.{EntryParts, EmptyLine, HeaderMade, HeaderIsMade, EntryMade, EntryIsMade}
use Rattle.table.proofs.Parts.{parted, any_made, before_made, behind_made, last_parted, ends_with_made, without_last_made, one_or_more-all, end_blanks, start_blanks}

-- ---- from the kind to the line

-- a name in brackets
abbrev pub HeaderParts : Bytes → Bytes → Type 0
HeaderParts l x = (l ≡ 0x5B ∷ x ++ 0x5D ∷ []) × (one_or_more header_byte x ≡ true)

-- what a kind says of its line
abbrev pub KindFacts : Bytes → Kind → Type 0
KindFacts l empty = l ≡ []
KindFacts l (header x) = HeaderParts l x
KindFacts l (entry k v) = EntryParts l k v
KindFacts l (fault n) = Unit {0}

header_facts : (l : Bytes) → KindFacts (0x5B ∷ l) (header_kind l)
unfolding header_kind is_header
header_facts l =
    by_cases (ends_with 0x5D l && one_or_more header_byte (without_last l))
    (λ e. rw e (
      ap (λ (r : Bytes). 0x5B ∷ r) (last_parted 0x5D l (and_left (ends_with 0x5D l) (one_or_more header_byte (without_last l)) e)),
      and_right (ends_with 0x5D l) (one_or_more header_byte (without_last l)) e,
    ))
    (λ e. rw e tt)

entry_parts : (l : Bytes) → any is_equals_sign l ≡ true → one_or_more key_byte (key_of l) ≡ true → EntryParts l (key_of l) (value_of l)
unfolding key_of value_of
entry_parts l e h =
    let a = end_blanks (before 0x3D l) in
    let b = start_blanks (behind 0x3D l) in
    record {
      front = a.0;
      back = b.0;
      line = parted 0x3D l e ∙ ap₂ (λ (x y : Bytes). x ++ 0x3D ∷ y) a.1 b.1 ∙ sym (append_assoc (key_of l ++ a.0) (0x3D ∷ b.0) (value_of l));
      front_blank = a.2;
      back_blank = b.2;
      key = h;
      value = trim_start_idem (behind 0x3D l);
    }

entry_facts : (l : Bytes) → KindFacts l (entry_kind l)
unfolding entry_kind
entry_facts l =
    by_cases (any is_equals_sign l)
    (λ e.
    by_cases (one_or_more key_byte (key_of l))
    (λ h. rw (e, h) (entry_parts l e h))
    (λ h. rw (e, h) tt))
    (λ e. rw e tt)

pub kind_facts : (l : Bytes) → KindFacts l (kind l)
unfolding kind
kind_facts [] = refl
kind_facts (b ∷ bs) =
    by_cases (eqb b 0x5B)
    (λ e. rw (e, eqb-true b 0x5B e) (header_facts bs))
    (λ e. rw e (entry_facts (b ∷ bs)))

pub empty_line : EmptyLine
empty_line l e = subst (KindFacts l) e (kind_facts l)

pub header_is_made : HeaderIsMade
header_is_made l x e = subst (KindFacts l) e (kind_facts l)

pub entry_is_made : EntryIsMade
entry_is_made l k v e = subst (KindFacts l) e (kind_facts l)

-- ---- from the line to the kind

pub header_made : HeaderMade
unfolding kind header_kind is_header
header_made x h = rw (ends_with_made 0x5D x, without_last_made 0x5D x, h)

-- a byte of a key is no blank
key_nonblank : (b : ℕ) → key_byte b ≡ true → not (blank b) ≡ true
key_nonblank b h = rw (neq_byte key_byte 0x20 b refl h, neq_byte key_byte 0x09 b refl h)

-- bytes of a kind that = is not of
no_equals : (p : ℕ → Bool) → p 0x3D ≡ false → (l : Bytes) → all p l ≡ true → all (λ b. not (is_equals_sign b)) l ≡ true
no_equals p q = all_imp p (λ b. not (is_equals_sign b)) (λ b h. rw (neq_byte p 0x3D b q h))

-- a line that starts with a key is no header
key_first : (k rest : Bytes) → one_or_more key_byte k ≡ true → kind (k ++ rest) ≡ entry_kind (k ++ rest)
unfolding kind one_or_more all
key_first [] rest h = impossible h
key_first (b ∷ k) rest h = rw (neq_byte key_byte 0x5B b refl (and_left (key_byte b) (all key_byte k) h))

module _ (l k v : Bytes) (p : EntryParts l k v) where
  -- cut at its =
  cut : l ≡ (k ++ p.front) ++ 0x3D ∷ (p.back ++ v)
  cut = p.line ∙ append_assoc (k ++ p.front) (0x3D ∷ p.back) v

  all_key : all key_byte k ≡ true
  all_key = one_or_more-all key_byte k p.key

  no_equals_before : all (λ b. not (is_equals_sign b)) (k ++ p.front) ≡ true
  no_equals_before =
      all_append (λ b. not (is_equals_sign b)) k p.front
      ∙ both (all (λ b. not (is_equals_sign b)) k) (all (λ b. not (is_equals_sign b)) p.front)
      (no_equals key_byte refl k all_key)
      (no_equals blank refl p.front p.front_blank)

  key_made : key_of l ≡ k
  unfolding key_of
  key_made =
      ap trim_end (ap (before 0x3D) cut ∙ before_made 0x3D (k ++ p.front) (p.back ++ v) no_equals_before)
      ∙ trim_end_blanks p.front k p.front_blank
      ∙ trim_end_nonblank k (all_imp key_byte (λ b. not (blank b)) key_nonblank k all_key)

  value_made : value_of l ≡ v
  unfolding value_of
  value_made =
      ap trim_start (ap (behind 0x3D) cut ∙ behind_made 0x3D (k ++ p.front) (p.back ++ v) no_equals_before)
      ∙ trim_start_blanks p.back v p.back_blank
      ∙ p.value

  equals_made : any is_equals_sign l ≡ true
  equals_made = ap (any is_equals_sign) cut ∙ any_made 0x3D (k ++ p.front) (p.back ++ v)

  entry_kind_made : entry_kind l ≡ entry k v
  unfolding entry_kind
  entry_kind_made = rw (equals_made, key_made, value_made, p.key)

  kind_made : kind l ≡ entry_kind l
  kind_made =
      let e : l ≡ k ++ (p.front ++ 0x3D ∷ (p.back ++ v)) = cut ∙ append_assoc k p.front (0x3D ∷ (p.back ++ v)) in
      rw e (key_first k (p.front ++ 0x3D ∷ (p.back ++ v)) p.key)

pub entry_made : EntryMade
entry_made l k v p = kind_made l k v p ∙ entry_kind_made l k v p

-- ---- lengths

-- a header's name has no more bytes than its line
pub header_length : (l x : Bytes) → HeaderParts l x → length x ≤ length l
header_length l x h = omega (arith, ap length h.0, length-append x (0x5D ∷ []))

-- and neither have an entry's key and value together
pub entry_length : (l k v : Bytes) → EntryParts l k v → length k + length v ≤ length l
entry_length l k v p =
    omega (
      arith,
      ap length (cut l k v p),
      length-append (k ++ p.front) (0x3D ∷ (p.back ++ v)),
      length-append k p.front,
      length-append p.back v,
    )
