-- UTF-8: bytes below 80 part well-formed bytes, and behind whole characters the rest is judged by itself.
-- The laws go over the bytes with the ranges that are still to come.
use mathlib.Core.Path.{◌≡◌, refl, sym, ◌∙◌}
use Prim.Native.Nat.{ℕ, ◌≤◌}
use native.Mathlib.Omega.{arith}
use mathlib.Core.Bool.{Bool, true, ◌&&◌}
use mathlib.Core.Option.{Option, none, some}
use mathlib.Core.List.{List, [], ◌∷◌, ◌++◌}
use lib.Dec.{leb, leb-zero}
use borrow.Author.Tests.{leb-true, lt-leb}
use Rattle.lines.specs.Bytes.{Bytes, all, between}
use Rattle.lines.specs.Utf8.{Range, range, within, Row, row, rows, headed, heads, after, well, utf8}
use Rattle.lines.proofs.Bools.{by_cases, and_left, and_right, and_assoc, impossible}

-- ---- rows

abbrev pub high_byte : ℕ → Bool
high_byte b = leb 0x80 b

-- every byte that the ranges let in is 80 or above
unfoldable pub high : List Range → Bool
high [] = true
high (range low top ∷ rs) = leb 0x80 low && high rs

unfoldable pub high_after : Option (List Range) → Bool
unfolding high
high_after none = true
high_after (some rs) = high rs

high_rows : List Row → Bool
unfolding high
high_rows [] = true
high_rows (row r rs ∷ qs) = high rs && high_rows qs

headed_high : (b : ℕ) (qs : List Row) → high_rows qs ≡ true → high_after (headed b qs) ≡ true
unfolding headed high_after high_rows
headed_high b [] h = refl
headed_high b (row r rs ∷ qs) h =
    by_cases (within r b)
    (λ e. rw e (and_left (high rs) (high_rows qs) h))
    (λ e. rw e (headed_high b qs (and_right (high rs) (high_rows qs) h)))

-- the bytes after the first of a character are 80 or above
pub heads_high : (b : ℕ) → high_after (heads b) ≡ true
unfolding heads
heads_high b = headed_high b rows (unfold high_rows rows high in refl)

-- a byte below 80 is a character
pub heads_ascii : (b : ℕ) → leb b 0x7F ≡ true → heads b ≡ some []
unfolding heads headed rows
heads_ascii b h = rw (leb-zero b, h)

-- ---- well-formed bytes parted and joined

-- a byte below 80 stands in no other character
pub well_split : (a : Bytes) (rs : List Range) (c : ℕ) (b : Bytes) → high rs ≡ true → leb c 0x7F ≡ true
    → well rs (a ++ c ∷ b) ≡ (well rs a && well [] b)
unfolding well high high_after after
well_split [] [] c b hr hc = rw (heads_ascii c hc)
well_split [] (range low top ∷ rs) c b hr hc =
    let l : 0x80 ≤ low = leb-true 0x80 low (and_left (leb 0x80 low) (high rs) hr) in
    let k : c ≤ 0x7F = leb-true c 0x7F hc in
    rw (lt-leb low c (omega arith))
well_split (x ∷ a) [] c b hr hc = go (heads x) (heads_high x) (λ rs h. well_split a rs c b h hc)
  where
    go : (o : Option (List Range)) → high_after o ≡ true
        → ((rs : List Range) → high rs ≡ true → well rs (a ++ c ∷ b) ≡ (well rs a && well [] b))
        → after o (λ rs. well rs (a ++ c ∷ b)) ≡ (after o (λ rs. well rs a) && well [] b)
    go none h ih = refl
    go (some rs) h ih = ih rs h
well_split (x ∷ a) (range low top ∷ rs) c b hr hc =
    rw (well_split a rs c b (and_right (leb 0x80 low) (high rs) hr) hc)
    (sym (and_assoc (between low top x) (well rs a) (well [] b)))

pub well_append : (a : Bytes) (rs : List Range) (b : Bytes) → well rs a ≡ true → well rs (a ++ b) ≡ well [] b
unfolding well after
well_append [] [] b h = refl
well_append [] (r ∷ rs) b h = impossible h
well_append (x ∷ a) [] b h = go (heads x) (λ rs k. well_append a rs b k) h
  where
    go : (o : Option (List Range)) → ((rs : List Range) → well rs a ≡ true → well rs (a ++ b) ≡ well [] b)
        → after o (λ rs. well rs a) ≡ true → after o (λ rs. well rs (a ++ b)) ≡ well [] b
    go none ih k = impossible k
    go (some rs) ih k = ih rs k
well_append (x ∷ a) (r ∷ rs) b h =
    rw (and_left (within r x) (well rs a) h, well_append a rs b (and_right (within r x) (well rs a) h))

pub utf8_split : (a : Bytes) (c : ℕ) (b : Bytes) → leb c 0x7F ≡ true → utf8 (a ++ c ∷ b) ≡ (utf8 a && utf8 b)
unfolding utf8 high
utf8_split a c b h = well_split a [] c b refl h

pub utf8_append : (a b : Bytes) → utf8 a ≡ true → utf8 (a ++ b) ≡ utf8 b
unfolding utf8
utf8_append a b h = well_append a [] b h

-- bytes below 80 are well-formed
pub utf8_ascii : (l : Bytes) → all (λ b. leb b 0x7F) l ≡ true → utf8 l ≡ true
unfolding all utf8 well
utf8_ascii [] h = refl
utf8_ascii (b ∷ l) h =
    utf8_split [] b l (and_left (leb b 0x7F) (all (λ b. leb b 0x7F) l) h)
    ∙ utf8_ascii l (and_right (leb b 0x7F) (all (λ b. leb b 0x7F) l) h)
