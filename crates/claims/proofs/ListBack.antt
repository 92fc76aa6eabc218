-- A lent list whose items are bytes without NUL is one that can be written; and what splitting its text gives.
use mathlib.Core.Path.{◌≡◌, refl, sym, ap, ◌∙◌}
use Prim.Native.Nat.{ℕ, suc, ◌≤◌, ◌<◌}
use native.Mathlib.Omega.{arith}
use mathlib.Core.Bool.{Bool, true, false, not}
use mathlib.Core.List.{List, [], ◌∷◌}
use lib.Dec.{eqb, leb}
use lib.ListN.{length, take, drop, get_or, take-append-drop}
use lib.Seq.{length-take-le}
use borrow.Author.Tests.{le-leb, eqb-false}
use Rattle.lines.specs.Bytes.{Bytes, between, all}
use Rattle.lines.specs.Answers.{accepted}
use Rattle.lines.proofs.Bools.{both, and_left, and_right, not_true, any-all, all_append}
use Rattle.items.specs.Split.{split_in, bytes_of}
use Rattle.items.specs.Write.{written, items_in, nul, last_end}
use Rattle.items.specs.Laws.{LaidAgain, WriteHas}
use Rattle.items.proofs.Laws.{round_trip, cut_is_laid_again, laid_is_cut_again, space_is_enough}
use Rattle.claims.specs.RoundTrip.{Lent}

-- ---- bytes

byte : ℕ → Bool
byte b = leb b 0xFF

-- the bytes of a slice are below 256
all-bytes : (l : Bytes) → ((i : ℕ) → get_or l i 0 < 256) → all byte l ≡ true
unfolding all byte
all-bytes [] h = refl
all-bytes (b ∷ l) h = both (byte b) (all byte l) (le-leb b 0xFF (omega (arith, h 0))) (all-bytes l (λ i. h (suc i)))

-- and so are the first of them
front_bytes : (n : ℕ) (l : Bytes) → all byte l ≡ true → all byte (take n l) ≡ true
front_bytes n l h =
    and_left (all byte (take n l)) (all byte (drop n l))
    (sym (all_append byte (take n l) (drop n l)) ∙ ap (all byte) (take-append-drop n l) ∙ h)

-- without NUL they lie from 1 on
from_one : (l : Bytes) → all byte l ≡ true → all (λ b. not (nul b)) l ≡ true → all (between 1 0xFF) l ≡ true
unfolding all byte
from_one [] h n = refl
from_one (b ∷ l) h n =
    let z : eqb b 0x00 ≡ false = not_true (eqb b 0x00) (and_left (not (nul b)) (all (λ c. not (nul c)) l) n) in
    both (between 1 0xFF b) (all (between 1 0xFF) l)
    (both (leb 1 b) (leb b 0xFF) (le-leb 1 b (omega (arith, eqb-false b 0x00 z))) (and_left (byte b) (all byte l) h))
    (from_one l (and_right (byte b) (all byte l) h) (and_right (not (nul b)) (all (λ c. not (nul c)) l) n))

-- ---- a list that was accepted

pub accepted_lent : (out : ℕ) (bytes : Bytes) (ends : List ℕ) (t : Bytes) → ((i : ℕ) → get_or bytes i 0 < 256)
    → WriteHas out bytes ends t → Lent bytes ends
accepted_lent out bytes ends t b h =
    let l : LaidAgain bytes ends = cut_is_laid_again bytes ends h.fit in
    let k : all byte (bytes_of (items_in bytes ends)) ≡ true = rw l.bytes (front_bytes (last_end 0 ends) bytes (all-bytes bytes b)) in
    let n : all (λ c. not (nul c)) (bytes_of (items_in bytes ends)) ≡ true =
    not_false' (all (λ c. not (nul c)) (bytes_of (items_in bytes ends))) (sym (any-all nul (bytes_of (items_in bytes ends))) ∙ h.no_nul) in
    record {
      fit = h.fit;
      writable = record {
        few = omega (arith, l.count, h.few);
        bytes = from_one (bytes_of (items_in bytes ends)) k n;
        short = omega (arith, ap length h.text, h.short);
      };
    }
  where
    not_false' : (a : Bool) → not a ≡ false → a ≡ true
    not_false' true e = refl
    not_false' false e = sym e

-- ---- its text, split

pub text_splits : (bytes : Bytes) (ends : List ℕ) → Lent bytes ends → (b e : ℕ) → 4096 ≤ b → 256 ≤ e
    → split_in b e (written (items_in bytes ends)) ≡ accepted (items_in bytes ends)
text_splits bytes ends l b e h k =
    space_is_enough b e (written (items_in bytes ends)) h k ∙ round_trip (items_in bytes ends) l.writable

-- as many bytes as up to the last end
pub length_back : (bytes : Bytes) (ends : List ℕ) → LaidAgain bytes ends → length (bytes_of (items_in bytes ends)) ≡ last_end 0 ends
length_back bytes ends l = ap length l.bytes ∙ length-take-le (last_end 0 ends) bytes l.inside

-- the items that the same ends cut out of these bytes
pub list_again : (bytes : Bytes) (ends : List ℕ) → LaidAgain bytes ends → items_in (take (last_end 0 ends) bytes) ends ≡ items_in bytes ends
list_again bytes ends l =
    let i = items_in bytes ends in
    ap (λ (x : Bytes). items_in x ends) (sym l.bytes) ∙ ap (items_in (bytes_of i)) (sym l.ends_again) ∙ (laid_is_cut_again i).1
