-- The bytes of an item as they are written are elements that mean these bytes. A test computed for each byte that an
-- item may have says so of one byte in quotes, and another that a byte of a bare item may stand there.
use mathlib.Core.Path.{◌≡◌, refl, ap, ◌∙◌}
use Prim.Native.Nat.{ℕ}
use mathlib.Core.Bool.{Bool, true, false, not, ◌&&◌, ◌||◌, cond}
use mathlib.Core.List.{List, [], ◌∷◌, ◌++◌}
use lib.ListN.{length}
use lib.Seq.{take-length}
use lib.Dec.{eqb}
use borrow.Author.Tests.{eqb-true}
use Rattle.lines.specs.Bytes.{Bytes, between, blank, all, any, equal}
use Rattle.lines.specs.Answers.{Outcome, accepted, refused}
use Rattle.lines.specs.Laws.{All}
use Rattle.lines.proofs.Bools.{impossible, and_left, and_right, both, not_true, all_append, equal_eq}
use Rattle.items.specs.Escapes.{Escaped, escape}
use Rattle.items.specs.Pieces.{backslash, quote}
use Rattle.items.specs.Split.{forbidden}
use Rattle.items.specs.Write.{bare_byte, written_byte, in_quotes}
use Rattle.items.specs.Grammar.{Element, itself, escaping, spelt, meant, BareElement, QuotedElement, all_spelt, all_meant}
use Rattle.items.proofs.Escaping.{escape_gives}
use Rattle.items.proofs.EachByte.{each_byte}

-- a byte that an item to write may have, and one that a text may have
abbrev pub byte : ℕ → Bool
byte b = between 1 0xFF b

abbrev pub allowed : ℕ → Bool
allowed b = not (forbidden b)

-- ---- a byte in quotes

-- an escape that gives these bytes and takes that many
given : Outcome Escaped → ℕ → Bytes → Bool
given (accepted e) n bs = eqb e.taken n && equal e.bytes bs
given (refused m p) n bs = false

given_is : (o : Outcome Escaped) (n : ℕ) (bs : Bytes) → given o n bs ≡ true → o ≡ accepted (record { bytes = bs; taken = n })
unfolding given
given_is (accepted e) n bs h =
    let t : e.taken ≡ n = eqb-true e.taken n (and_left (eqb e.taken n) (equal e.bytes bs) h) in
    let b : e.bytes ≡ bs = equal_eq e.bytes bs (and_right (eqb e.taken n) (equal e.bytes bs) h) in
    rw (← t, ← b)
given_is (refused m p) n bs h = impossible h

-- an element between double quotes, as a test
sound : Element → Bool
unfolding given
sound (itself b) = not (eqb b 0x22) && not (backslash b)
sound (escaping t bs) = given (escape 0 t) (length t) bs

sound_in_quotes : (e : Element) → sound e ≡ true → QuotedElement 0x22 e
unfolding sound
sound_in_quotes (itself b) h = (
  not_true (eqb b 0x22) (and_left (not (eqb b 0x22)) (not (backslash b)) h),
  not_true (backslash b) (and_right (not (eqb b 0x22)) (not (backslash b)) h),
)
sound_in_quotes (escaping t bs) h =
    rw (take-length t) at (escape_gives 0 t (record { bytes = bs; taken = length t }) (given_is (escape 0 t) (length t) bs h)).1

-- the element that bytes in the text are, which are to mean a byte
element_of : ℕ → Bytes → Element
element_of b [] = itself b
element_of b (c ∷ t) = cond (backslash c) (escaping t (b ∷ [])) (itself b)

-- all that is to hold of it
holds : ℕ → Bytes → Element → Bool
unfolding sound equal all
holds b t e = equal t (spelt e) && (equal (b ∷ []) (meant e) && (sound e && all allowed t))

quoted_byte : (b : ℕ) → byte b ≡ true → holds b (written_byte b) (element_of b (written_byte b)) ≡ true
unfolding holds element_of written_byte escape
quoted_byte b h = each_byte (λ b. holds b (written_byte b) (element_of b (written_byte b))) refl b h

-- ---- the bytes of an item

-- the elements that a text is, and what they mean
pub record Inside (In : Element → Type 0) (x t : Bytes) : Type 0 where
  pub list : List Element
  pub text : t ≡ all_spelt list
  pub means : x ≡ all_meant list
  pub elements : All In list
  pub bytes : all allowed t ≡ true

byte_inside : (b : ℕ) (t : Bytes) (e : Element) (x s : Bytes) → holds b t e ≡ true
    → Inside (QuotedElement 0x22) x s → Inside (QuotedElement 0x22) (b ∷ x) (t ++ s)
unfolding holds
byte_inside b t e x s h r =
    let k : (equal (b ∷ []) (meant e) && (sound e && all allowed t)) ≡ true = and_right (equal t (spelt e)) _ h in
    let l : (sound e && all allowed t) ≡ true = and_right (equal (b ∷ []) (meant e)) _ k in
    let y : t ≡ spelt e = equal_eq t (spelt e) (and_left (equal t (spelt e)) _ h) in
    let z : b ∷ [] ≡ meant e = equal_eq (b ∷ []) (meant e) (and_left (equal (b ∷ []) (meant e)) _ k) in
    record {
      list = e ∷ r.list;
      text = cc;
      means = rw (← z, ← r.means);
      elements = (sound_in_quotes e (and_left (sound e) (all allowed t) l), r.elements);
      bytes = all_append allowed t s ∙ both (all allowed t) (all allowed s) (and_right (sound e) (all allowed t) l) r.bytes;
    }

pub quoted_inside : (x : Bytes) → all byte x ≡ true → Inside (QuotedElement 0x22) x (in_quotes x)
unfolding all in_quotes
quoted_inside [] h = record { list = []; text = refl; means = refl; elements = tt; bytes = refl }
quoted_inside (b ∷ x) h =
    byte_inside b (written_byte b) (element_of b (written_byte b)) x (in_quotes x) (quoted_byte b (and_left (byte b) (all byte x) h))
    (quoted_inside x (and_right (byte b) (all byte x) h))

-- a byte that may stand in a bare item and in a text
plainly : ℕ → Bool
plainly b = not (blank b) && (not (quote b) && (not (backslash b) && allowed b))

bare_plainly : (b : ℕ) → byte b ≡ true → bare_byte b ≡ true → plainly b ≡ true
unfolding plainly bare_byte any
bare_plainly b h k =
    let t : (not (bare_byte b) || plainly b) ≡ true = each_byte (λ b. not (bare_byte b) || plainly b) refl b h in
    rw k at t

plainly_inside : (b : ℕ) (x : Bytes) → plainly b ≡ true → Inside BareElement x x → Inside BareElement (b ∷ x) (b ∷ x)
unfolding plainly all
plainly_inside b x h r =
    let k : (not (quote b) && (not (backslash b) && allowed b)) ≡ true = and_right (not (blank b)) _ h in
    let l : (not (backslash b) && allowed b) ≡ true = and_right (not (quote b)) _ k in
    record {
      list = itself b ∷ r.list;
      text = ap (λ (t : Bytes). b ∷ t) r.text;
      means = ap (λ (t : Bytes). b ∷ t) r.means;
      elements = (
        (
          not_true (blank b) (and_left (not (blank b)) _ h),
          not_true (quote b) (and_left (not (quote b)) _ k),
          not_true (backslash b) (and_left (not (backslash b)) (allowed b) l),
        ),
        r.elements,
      );
      bytes = both (allowed b) (all allowed x) (and_right (not (backslash b)) (allowed b) l) r.bytes;
    }

pub bare_inside : (x : Bytes) → all byte x ≡ true → all bare_byte x ≡ true → Inside BareElement x x
unfolding all
bare_inside [] h k = record { list = []; text = refl; means = refl; elements = tt; bytes = refl }
bare_inside (b ∷ x) h k =
    plainly_inside b x (bare_plainly b (and_left (byte b) (all byte x) h) (and_left (bare_byte b) (all bare_byte x) k))
    (bare_inside x (and_right (byte b) (all byte x) h) (and_right (bare_byte b) (all bare_byte x) k))
