-- The written form, by its cases. It grows at its end: by one byte more in an item, by one item more in a list. And its length: at
-- least one for each byte, at most four for each byte and three for each item.
use mathlib.Core.Path.{◌≡◌, refl}
use Prim.Native.Nat.{ℕ, zero, suc, ◌+◌, ◌*◌, ◌≤◌}
use native.Mathlib.Omega.{arith}
use mathlib.Core.Bool.{true, false}
use mathlib.Core.List.{List, [], ◌∷◌, ◌++◌, append_assoc, append-nil}
use lib.ListN.{length, length-append}
use Rattle.lines.specs.Bytes.{Bytes}
use Rattle.lines.proofs.Bools.{by_cases}
use Rattle.items.specs.Split.{bytes_of}
use Rattle.items.specs.Write.{is_bare, written_byte, in_quotes, written_item, written}
use Rattle.item_writer.specs.Steps.{following}
use Rattle.item_writer.proofs.Forms.{byte_length}

-- ---- forms

pub item_bare : (x : Bytes) → is_bare x ≡ true → written_item x ≡ x
unfolding written_item
item_bare x h = rw h

pub item_quoted : (x : Bytes) → is_bare x ≡ false → written_item x ≡ 0x22 ∷ in_quotes x ++ 0x22 ∷ []
unfolding written_item
item_quoted x h = rw h

pub following_first : (n : ℕ) (x : Bytes) → n ≡ 0 → following n x ≡ written_item x
unfolding following
following_first n x h = rw h

pub following-later : (n : ℕ) (x : Bytes) → (n ≡ 0 → ⊥) → following n x ≡ 0x20 ∷ written_item x
unfolding following
following-later zero x h = absurd (h refl)
following-later (suc n) x h = refl

-- ---- one more

pub in_quotes_snoc : (xs : Bytes) (b : ℕ) → in_quotes (xs ++ b ∷ []) ≡ in_quotes xs ++ written_byte b
unfolding in_quotes
in_quotes_snoc [] b = append-nil (written_byte b)
in_quotes_snoc (x ∷ xs) b = rw (in_quotes_snoc xs b, append_assoc)

pub written_snoc : (xs : List Bytes) (x : Bytes) → written (xs ++ x ∷ []) ≡ written xs ++ following (length xs) x
unfolding written following
written_snoc [] x = refl
written_snoc (y ∷ []) x = refl
written_snoc (y ∷ z ∷ zs) x = rw (written_snoc (z ∷ zs) x, append_assoc)

-- ---- lengths

quoted_length : (xs : Bytes) → (length xs ≤ length (in_quotes xs)) × (length (in_quotes xs) ≤ 4 * length xs)
unfolding in_quotes
quoted_length [] = (omega arith, omega arith)
quoted_length (b ∷ bs) =
    let l = quoted_length bs in
    let k = byte_length b in
    let e = length-append (written_byte b) (in_quotes bs) in
    (omega arith, omega arith)

pub quoted_most : (xs : Bytes) → length (in_quotes xs) ≤ 4 * length xs
quoted_most xs = (quoted_length xs).1

item_length : (x : Bytes) → (length x ≤ length (written_item x)) × (length (written_item x) ≤ 4 * length x + 2)
unfolding written_item
item_length x =
    let l = quoted_length x in
    let e = length-append (in_quotes x) (0x22 ∷ []) in
    by_cases (is_bare x) (λ t. rw t (omega arith, omega arith)) (λ t. rw t (omega arith, omega arith))

-- with a space before it
pub following_most : (n : ℕ) (x : Bytes) → length (following n x) ≤ 4 * length x + 3
unfolding following
following_most zero x = omega (arith, (item_length x).1)
following_most (suc n) x = omega (arith, (item_length x).1)

pub written_least : (xs : List Bytes) → length (bytes_of xs) ≤ length (written xs)
unfolding bytes_of written
written_least [] = omega arith
written_least (x ∷ []) = omega (arith, (item_length x).0, length-append x [])
written_least (x ∷ y ∷ ys) =
    let bytes = length-append x (bytes_of (y ∷ ys)) in
    let text = length-append (written_item x) (0x20 ∷ written (y ∷ ys)) in
    omega (arith, (item_length x).0, written_least (y ∷ ys))
