-- The bytes of a code point up to 10FFFF are well-formed, the surrogates D800 to DFFF aside.
-- The first byte picks its row, since the rows before it end below it; the other bytes lie in the row's ranges.
use mathlib.Core.Path.{◌≡◌, refl, sym, ap, ◌∙◌}
use Prim.Native.Nat.{ℕ, suc, ◌+◌, ◌/◌, ◌%◌, ◌≤◌, ◌<◌}
use native.Mathlib.Omega.{arith}
use mathlib.Core.Bool.{Bool, true, false, ◌&&◌}
use mathlib.Core.Option.{some}
use mathlib.Core.List.{List, [], ◌∷◌, ◌++◌}
use lib.ListN.{take, drop, take-append-drop}
use lib.Dec.{leb, ltb}
use borrow.Author.Tests.{leb-true, leb-false, ltb-true, le-leb, lt-leb}
use Rattle.lines.specs.Bytes.{Bytes, between}
use Rattle.lines.specs.Utf8.{Range, range, tail, Row, row, rows, headed, heads, after, well, utf8, encoded}
use Rattle.lines.proofs.Bools.{by_cases, and_left, and_right, both, impossible}

pub in_between : (low high b : ℕ) → low ≤ b → b ≤ high → between low high b ≡ true
in_between low high b l h = both (leb low b) (leb b high) (le-leb low b l) (le-leb b high h)

-- the first bytes of these rows are below n
below : ℕ → List Row → Bool
below n [] = true
below n (row (range low high) rs ∷ qs) = ltb high n && below n qs

headed_past : (ps : List Row) (b low : ℕ) (qs : List Row) → below low ps ≡ true → low ≤ b
    → headed b (ps ++ qs) ≡ headed b qs
unfolding headed below
headed_past [] b low qs h l = refl
headed_past (row (range lo hi) rs ∷ ps) b low qs h l =
    let k : hi < low = ltb-true hi low (and_left (ltb hi low) (below low ps) h) in
    by_cases (leb lo b)
    (λ e. rw (e, lt-leb b hi (omega arith)) (headed_past ps b low qs (and_right (ltb hi low) (below low ps) h) l))
    (λ e. rw e (headed_past ps b low qs (and_right (ltb hi low) (below low ps) h) l))

-- ---- a character, by its row and its bytes

-- the row at index k
in_row : (k low high : ℕ) (rs : List Range) (b : ℕ) (bs : Bytes)
    → drop k rows ≡ row (range low high) rs ∷ drop (suc k) rows → below low (take k rows) ≡ true
    → low ≤ b → b ≤ high → well rs bs ≡ true → utf8 (b ∷ bs) ≡ true
unfolding utf8 well after heads
in_row k low high rs b bs e p l h w =
    let q : headed b rows ≡ some rs =
    ap (headed b) (sym (take-append-drop k rows) ∙ ap (λ (qs : List Row). take k rows ++ qs) e)
    ∙ headed_past (take k rows) b low (row (range low high) rs ∷ drop (suc k) rows) p l
    ∙ (unfold headed in rw (in_between low high b l h)) in
    rw q w

well_nil : well [] [] ≡ true
unfolding well
well_nil = refl

next_byte : (low high b : ℕ) (rs : List Range) (bs : Bytes) → low ≤ b → b ≤ high → well rs bs ≡ true
    → well (range low high ∷ rs) (b ∷ bs) ≡ true
unfolding well
next_byte low high b rs bs l h w = both (between low high b) (well rs bs) (in_between low high b l h) w

tail_byte : (m : ℕ) (rs : List Range) (bs : Bytes) → well rs bs ≡ true
    → well (tail ∷ rs) ((0x80 + m % 0x40) ∷ bs) ≡ true
tail_byte m rs bs w = next_byte 0x80 0xBF (0x80 + m % 0x40) rs bs (omega arith) (omega arith) w

-- ---- code points

pub split {ℓ} : {X : Type ℓ} (n k : ℕ) → (n ≤ k → X) → (k < n → X) → X
split n k f g = by_cases (leb n k) (λ e. f (leb-true n k e)) (λ e. g (leb-false n k e))

no_surrogate : (n : ℕ) → between 0xD800 0xDFFF n ≡ false → n ≤ 0xDFFF → n < 0xD800
no_surrogate n s h =
    split n 0xD7FF (λ l. omega arith) (λ g. impossible (sym s ∙ in_between 0xD800 0xDFFF n (omega arith) h))

three_bytes : (n : ℕ) → 0x7FF < n → n ≤ 0xFFFF → between 0xD800 0xDFFF n ≡ false
    → utf8 ((0xE0 + n / 0x1000) ∷ (0x80 + n / 0x40 % 0x40) ∷ (0x80 + n % 0x40) ∷ []) ≡ true
unfolding rows below
three_bytes n l h s =
    split n 0x0FFF
    (λ c. in_row 2 0xE0 0xE0 _ (0xE0 + n / 0x1000) _ refl refl (omega arith) (omega arith)
    (next_byte 0xA0 0xBF (0x80 + n / 0x40 % 0x40) _ _ (omega arith) (omega arith) last))
    (λ c. split n 0xCFFF
    (λ d. in_row 3 0xE1 0xEC _ (0xE0 + n / 0x1000) _ refl refl (omega arith) (omega arith)
    (tail_byte (n / 0x40) _ _ last))
    (λ d. split n 0xDFFF
    (λ e. in_row 4 0xED 0xED _ (0xE0 + n / 0x1000) _ refl refl (omega arith) (omega arith)
    (next_byte 0x80 0x9F (0x80 + n / 0x40 % 0x40) _ _ (omega arith) (omega (arith, no_surrogate n s e)) last))
    (λ e. in_row 5 0xEE 0xEF _ (0xE0 + n / 0x1000) _ refl refl (omega arith) (omega arith)
    (tail_byte (n / 0x40) _ _ last))))
  where
    last : well (tail ∷ []) ((0x80 + n % 0x40) ∷ []) ≡ true
    last = tail_byte n [] [] well_nil

four_bytes : (n : ℕ) → 0xFFFF < n → n ≤ 0x10FFFF
    → utf8 ((0xF0 + n / 0x40000) ∷ (0x80 + n / 0x1000 % 0x40) ∷ (0x80 + n / 0x40 % 0x40) ∷ (0x80 + n % 0x40) ∷ []) ≡ true
unfolding rows below
four_bytes n l h =
    split n 0x3FFFF
    (λ c. in_row 6 0xF0 0xF0 _ (0xF0 + n / 0x40000) _ refl refl (omega arith) (omega arith)
    (next_byte 0x90 0xBF (0x80 + n / 0x1000 % 0x40) _ _ (omega arith) (omega arith) last))
    (λ c. split n 0xFFFFF
    (λ d. in_row 7 0xF1 0xF3 _ (0xF0 + n / 0x40000) _ refl refl (omega arith) (omega arith)
    (tail_byte (n / 0x1000) _ _ last))
    (λ d. in_row 8 0xF4 0xF4 _ (0xF0 + n / 0x40000) _ refl refl (omega arith) (omega arith)
    (next_byte 0x80 0x8F (0x80 + n / 0x1000 % 0x40) _ _ (omega arith) (omega arith) last)))
  where
    last : well (tail ∷ tail ∷ []) ((0x80 + n / 0x40 % 0x40) ∷ (0x80 + n % 0x40) ∷ []) ≡ true
    last = tail_byte (n / 0x40) (tail ∷ []) ((0x80 + n % 0x40) ∷ []) (tail_byte n [] [] well_nil)

pub encoded-utf8 : (n : ℕ) → n ≤ 0x10FFFF → between 0xD800 0xDFFF n ≡ false → utf8 (encoded n) ≡ true
unfolding encoded rows below
encoded-utf8 n h s =
    split n 0x7F
    (λ a. rw (le-leb n 0x7F a) (in_row 0 0x00 0x7F _ n [] refl refl (omega arith) a well_nil))
    (λ a. rw (lt-leb n 0x7F a) (split n 0x7FF
    (λ b. rw (le-leb n 0x7FF b)
    (in_row 1 0xC2 0xDF _ (0xC0 + n / 0x40) _ refl refl (omega arith) (omega arith) (tail_byte n [] [] well_nil)))
    (λ b. rw (lt-leb n 0x7FF b) (split n 0xFFFF
    (λ c. rw (le-leb n 0xFFFF c) (three_bytes n b c s))
    (λ c. rw (lt-leb n 0xFFFF c) (four_bytes n c h))))))
