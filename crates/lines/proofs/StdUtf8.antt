-- std's UTF-8, the bytes of some characters, is that of the RFC's rows: so `str::from_utf8` finds the longest
-- well-formed start, and `simdutf8::is_utf8` tests parts of it.
use mathlib.Core.Path.{◌≡◌, refl, sym, ap, subst, ◌∙◌}
use mathlib.Core.Logic.{◌⊎◌, ⊎_elim, inl, inr}
use Prim.Native.Nat.{ℕ, zero, suc, ◌+◌, ◌-◌, ◌*◌, ◌/◌, ◌%◌, ◌≤◌}
use native.Mathlib.Omega.{arith}
use mathlib.Core.Bool.{true, false, ◌&&◌, cond}
use mathlib.Core.Option.{Option, none, some}
use mathlib.Core.List.{List, [], ◌∷◌}
use lib.ListN.{length, take, drop}
use lib.Dec.{leb}
use lib.Utf8.{scalar, scalars, encode, encodes, scalar_cases, low_scalar}
use borrow.Author.Tests.{leb-true, le-leb, lt-leb, lt-ltb, le-ltb}
use Rattle.std.specs.Str.{IsUtf8, is_utf8}
use Rattle.std.specs.Str.Lossy.{valid_len_up_to, utf8_valid_len}
use Rattle.std.proofs.lemmas.Str.{IsUtf8-append, IsUtf8-encode, IsUtf8-from_is_utf8, is_utf8-from_IsUtf8, utf8_valid_len-IsUtf8}
use Rattle.lines.specs.Bytes.{Bytes, between}
use Rattle.lines.specs.Utf8.{Range, range, tail, row, rows, headed, heads, after, well, utf8, start_within, longest_start, encoded}
use Rattle.lines.proofs.Bools.{by_cases, and_left, and_right, and_false, impossible, is_false}
use Rattle.lines.proofs.Slices.{front_and_part}
use Rattle.lines.proofs.Utf8Laws.{utf8_append}
use Rattle.lines.proofs.Encoded.{split, encoded-utf8}

-- ---- the bytes of characters are well-formed

same_bytes : (c : ℕ) → encode c ≡ encoded c
unfolding encode encoded
same_bytes c =
    split c 0x7F
    (λ h. rw (le-leb c 0x7F h, lt-ltb c 128 (omega arith)))
    (λ l. rw (lt-leb c 0x7F l, le-ltb c 128 (omega arith)) (split c 0x7FF
    (λ h. rw (le-leb c 0x7FF h, lt-ltb c 2048 (omega arith)))
    (λ l. rw (lt-leb c 0x7FF l, le-ltb c 2048 (omega arith)) (split c 0xFFFF
    (λ h. rw (le-leb c 0xFFFF h, lt-ltb c 65536 (omega arith)))
    (λ l. rw (lt-leb c 0xFFFF l, le-ltb c 65536 (omega arith)))))))

char-utf8 : (c : ℕ) → scalar c ≡ true → utf8 (encode c) ≡ true
char-utf8 c s =
    rw (same_bytes c) (⊎_elim
    (λ h. encoded-utf8 c (omega arith) (rw (lt-leb 0xD800 c h)))
    (λ h. encoded-utf8 c (omega (arith, h.1)) (rw (lt-leb c 0xDFFF (omega (arith, h.0))) (and_false (leb 0xD800 c))))
    (scalar_cases c s))

chars-utf8 : (cs : List ℕ) → scalars cs ≡ true → utf8 (encodes cs) ≡ true
unfolding utf8 well
chars-utf8 [] s = refl
chars-utf8 (c ∷ cs) s =
    utf8_append (encode c) (encodes cs) (char-utf8 c (and_left (scalar c) (scalars cs) s))
    ∙ chars-utf8 cs (and_right (scalar c) (scalars cs) s)

pub utf8_of_std : (bs : Bytes) → IsUtf8 bs → utf8 bs ≡ true
utf8_of_std bs u = ap utf8 (sym u.1.1) ∙ chars-utf8 u.0 u.1.0

-- ---- well-formed bytes are those of characters

in_range : (low high b : ℕ) → between low high b ≡ true → (low ≤ b) × (b ≤ high)
in_range low high b h =
    (leb-true low b (and_left (leb low b) (leb b high) h), leb-true b high (and_right (leb low b) (leb b high) h))

-- the bytes of the character n
of_char : (n : ℕ) (bs : Bytes) → scalar n ≡ true → encoded n ≡ bs → IsUtf8 bs
of_char n bs s e = subst IsUtf8 (same_bytes n ∙ e) (IsUtf8-encode n s)

high_scalar : (n : ℕ) → 0xE000 ≤ n → n ≤ 0x10FFFF → scalar n ≡ true
high_scalar n l h = rw (le-ltb n 55296 (omega arith), le-leb 57344 n l, lt-ltb n 1114112 (omega arith))

of_one : (a : ℕ) → a ≤ 0x7F → IsUtf8 (a ∷ [])
unfolding encoded
of_one a h = of_char a (a ∷ []) (low_scalar a (omega arith)) (rw (le-leb a 0x7F h))

of_two : (a b : ℕ) → 0xC2 ≤ a → a ≤ 0xDF → 0x80 ≤ b → b ≤ 0xBF → IsUtf8 (a ∷ b ∷ [])
unfolding encoded
of_two a b l h l' h' =
    let n : ℕ = (a - 0xC0) * 0x40 + (b - 0x80) in
    let p : 0xC0 + n / 0x40 ≡ a = omega arith in
    let q : 0x80 + n % 0x40 ≡ b = omega arith in
    of_char n (a ∷ b ∷ []) (low_scalar n (omega arith))
    (rw (lt-leb n 0x7F (omega arith), le-leb n 0x7FF (omega arith)) (λ k. p k ∷ q k ∷ []))

of_three : (a b c : ℕ) → 0xE0 ≤ a → a ≤ 0xEF → 0x80 ≤ b → b ≤ 0xBF → 0x80 ≤ c → c ≤ 0xBF
    → 0xE0 * 0x40 + 0xA0 ≤ a * 0x40 + b → (a * 0x40 + b ≤ 0xED * 0x40 + 0x9F) ⊎ (0xEE ≤ a) → IsUtf8 (a ∷ b ∷ c ∷ [])
unfolding encoded
of_three a b c l h l' h' m m' low s =
    let n : ℕ = (a - 0xE0) * 0x1000 + (b - 0x80) * 0x40 + (c - 0x80) in
    let p : 0xE0 + n / 0x1000 ≡ a = omega arith in
    let q : 0x80 + (n / 0x40) % 0x40 ≡ b = omega arith in
    let r : 0x80 + n % 0x40 ≡ c = omega arith in
    of_char n (a ∷ b ∷ c ∷ []) (⊎_elim (λ e. low_scalar n (omega arith)) (λ e. high_scalar n (omega arith) (omega arith)) s)
    (rw (lt-leb n 0x7F (omega arith), lt-leb n 0x7FF (omega arith), le-leb n 0xFFFF (omega arith))
    (λ k. p k ∷ q k ∷ r k ∷ []))

of_four : (a b c d : ℕ) → 0xF0 ≤ a → 0x80 ≤ b → b ≤ 0xBF → 0x80 ≤ c → c ≤ 0xBF → 0x80 ≤ d → d ≤ 0xBF
    → 0xF0 * 0x40 + 0x90 ≤ a * 0x40 + b → a * 0x40 + b ≤ 0xF4 * 0x40 + 0x8F → IsUtf8 (a ∷ b ∷ c ∷ d ∷ [])
unfolding encoded
of_four a b c d l l1 h1 l2 h2 l3 h3 low top =
    let n : ℕ = (a - 0xF0) * 0x40000 + (b - 0x80) * 0x1000 + (c - 0x80) * 0x40 + (d - 0x80) in
    let p : 0xF0 + n / 0x40000 ≡ a = omega arith in
    let q : 0x80 + (n / 0x1000) % 0x40 ≡ b = omega arith in
    let e : n / 0x40 ≡ (a - 0xF0) * 0x1000 + (b - 0x80) * 0x40 + (c - 0x80) = omega arith in
    let r : 0x80 + (n / 0x40) % 0x40 ≡ c = subst (λ (m : ℕ). 0x80 + m % 0x40 ≡ c) (sym e) (omega arith) in
    let t : 0x80 + n % 0x40 ≡ d = omega arith in
    of_char n (a ∷ b ∷ c ∷ d ∷ []) (high_scalar n (omega arith) (omega arith))
    (rw (lt-leb n 0x7F (omega arith), lt-leb n 0x7FF (omega arith), lt-leb n 0xFFFF (omega arith))
    (λ k. p k ∷ q k ∷ r k ∷ t k ∷ []))

-- what the rows of three and of four bytes say of the first byte and the range of the second
abbrev Three : ℕ → ℕ → ℕ → Type 0
Three b low high =
    ((0xE0 ≤ b) × (b ≤ 0xEF) × (0x80 ≤ low) × (high ≤ 0xBF) × (0xE0 * 0x40 + 0xA0 ≤ b * 0x40 + low))
    × ((b * 0x40 + high ≤ 0xED * 0x40 + 0x9F) ⊎ (0xEE ≤ b))

abbrev Four : ℕ → ℕ → ℕ → Type 0
Four b low high =
    (0xF0 ≤ b) × (0x80 ≤ low) × (high ≤ 0xBF) × (0xF0 * 0x40 + 0x90 ≤ b * 0x40 + low)
    × (b * 0x40 + high ≤ 0xF4 * 0x40 + 0x8F)

-- the rows, by the number of bytes
module _ (b : ℕ) (P : Option (List Range) → Type 0) where
  -- the row at index k has the first byte, or those after it decide
  or_row : (k low high : ℕ) (rs : List Range) → drop k rows ≡ row (range low high) rs ∷ drop (suc k) rows
      → (low ≤ b → b ≤ high → P (some rs)) → P (headed b (drop (suc k) rows)) → P (headed b (drop k rows))
  unfolding headed
  or_row k low high rs e hit miss =
      rw e (by_cases (between low high b)
      (λ t. rw t (hit (in_range low high b t).0 (in_range low high b t).1))
      (λ t. rw t miss))

  by_row : (b ≤ 0x7F → P (some []))
      → (0xC2 ≤ b → b ≤ 0xDF → P (some (tail ∷ [])))
      → ((low high : ℕ) → Three b low high → P (some (range low high ∷ tail ∷ [])))
      → ((low high : ℕ) → Four b low high → P (some (range low high ∷ tail ∷ tail ∷ [])))
      → P none → P (heads b)
  unfolding heads headed rows
  by_row one two three four none_has =
      or_row 0 0x00 0x7F _ refl (λ l h. one h)
      (or_row 1 0xC2 0xDF _ refl two
      (or_row 2 0xE0 0xE0 _ refl (λ l h. three 0xA0 0xBF (omega arith, inl (omega arith)))
      (or_row 3 0xE1 0xEC _ refl (λ l h. three 0x80 0xBF (omega arith, inl (omega arith)))
      (or_row 4 0xED 0xED _ refl (λ l h. three 0x80 0x9F (omega arith, inl (omega arith)))
      (or_row 5 0xEE 0xEF _ refl (λ l h. three 0x80 0xBF (omega arith, inr l))
      (or_row 6 0xF0 0xF0 _ refl (λ l h. four 0x90 0xBF (omega arith))
      (or_row 7 0xF1 0xF3 _ refl (λ l h. four 0x80 0xBF (omega arith))
      (or_row 8 0xF4 0xF4 _ refl (λ l h. four 0x80 0x8F (omega arith)) none_has))))))))

-- a character that starts with the byte b, and at most n bytes after it, of which `of_rest` is told
module _ (b n : ℕ) (of_rest : (bs : Bytes) → length bs ≤ n → well [] bs ≡ true → IsUtf8 bs) where
  one_more : (bs : Bytes) → length bs ≤ n → b ≤ 0x7F → well [] bs ≡ true → IsUtf8 (b ∷ bs)
  one_more bs l h w = IsUtf8-append (b ∷ []) bs (of_one b h) (of_rest bs l w)

  two_more : (bs : Bytes) → length bs ≤ n → 0xC2 ≤ b → b ≤ 0xDF → well (tail ∷ []) bs ≡ true → IsUtf8 (b ∷ bs)
  unfolding well
  two_more [] l k h w = impossible w
  two_more (c ∷ bs) l k h w =
      let i = in_range 0x80 0xBF c (and_left (between 0x80 0xBF c) (well [] bs) w) in
      IsUtf8-append (b ∷ c ∷ []) bs (of_two b c k h i.0 i.1)
      (of_rest bs (omega arith) (and_right (between 0x80 0xBF c) (well [] bs) w))

  three_more : (bs : Bytes) → length bs ≤ n → (low high : ℕ) → Three b low high
      → well (range low high ∷ tail ∷ []) bs ≡ true → IsUtf8 (b ∷ bs)
  unfolding well
  three_more [] l low high k w = impossible w
  three_more (c ∷ []) l low high k w = impossible (sym (and_false (between low high c)) ∙ w)
  three_more (c ∷ d ∷ bs) l low high k w =
      let v = and_right (between low high c) (between 0x80 0xBF d && well [] bs) w in
      let i = in_range low high c (and_left (between low high c) (between 0x80 0xBF d && well [] bs) w) in
      let j = in_range 0x80 0xBF d (and_left (between 0x80 0xBF d) (well [] bs) v) in
      IsUtf8-append (b ∷ c ∷ d ∷ []) bs
      (of_three b c d k.0.0 k.0.1 (omega arith) (omega arith) j.0 j.1 (omega arith) (⊎_elim (λ q. inl (omega arith)) inr k.1))
      (of_rest bs (omega arith) (and_right (between 0x80 0xBF d) (well [] bs) v))

  four_more : (bs : Bytes) → length bs ≤ n → (low high : ℕ) → Four b low high
      → well (range low high ∷ tail ∷ tail ∷ []) bs ≡ true → IsUtf8 (b ∷ bs)
  unfolding well
  four_more [] l low high k w = impossible w
  four_more (c ∷ []) l low high k w = impossible (sym (and_false (between low high c)) ∙ w)
  four_more (c ∷ d ∷ []) l low high k w =
      impossible (sym (and_false (between 0x80 0xBF d)) ∙ and_right (between low high c) (between 0x80 0xBF d && false) w)
  four_more (c ∷ d ∷ e ∷ bs) l low high k w =
      let v = and_right (between low high c) (between 0x80 0xBF d && (between 0x80 0xBF e && well [] bs)) w in
      let u = and_right (between 0x80 0xBF d) (between 0x80 0xBF e && well [] bs) v in
      let i = in_range low high c (and_left (between low high c) (between 0x80 0xBF d && (between 0x80 0xBF e && well [] bs)) w) in
      let j = in_range 0x80 0xBF d (and_left (between 0x80 0xBF d) (between 0x80 0xBF e && well [] bs) v) in
      let m = in_range 0x80 0xBF e (and_left (between 0x80 0xBF e) (well [] bs) u) in
      IsUtf8-append (b ∷ c ∷ d ∷ e ∷ []) bs
      (of_four b c d e k.0 (omega arith) (omega arith) j.0 j.1 m.0 m.1 (omega arith) (omega arith))
      (of_rest bs (omega arith) (and_right (between 0x80 0xBF e) (well [] bs) u))

std_within : (n : ℕ) (bs : Bytes) → length bs ≤ n → well [] bs ≡ true → IsUtf8 bs
unfolding well after
std_within n [] l h = ([], (refl, refl))
std_within zero (b ∷ bs) l h = absurd (omega arith)
std_within (suc n) (b ∷ bs) l h =
    let of_rest = std_within n in
    let k : length bs ≤ n = omega arith in
    by_row b (λ o. after o (λ rs. well rs bs) ≡ true → IsUtf8 (b ∷ bs))
    (one_more b n of_rest bs k) (two_more b n of_rest bs k) (three_more b n of_rest bs k) (four_more b n of_rest bs k)
    (λ e. impossible e) h

pub std_of_utf8 : (bs : Bytes) → utf8 bs ≡ true → IsUtf8 bs
unfolding utf8
std_of_utf8 bs h = std_within (length bs) bs (omega arith) h

-- ---- what `str::from_utf8` answers

same_test : (bs : Bytes) → is_utf8 bs ≡ utf8 bs
same_test bs =
    by_cases (utf8 bs)
    (λ e. is_utf8-from_IsUtf8 bs (std_of_utf8 bs e) ∙ sym e)
    (λ e. is_false (is_utf8 bs) (λ h. impossible (sym e ∙ utf8_of_std bs (IsUtf8-from_is_utf8 bs h))) ∙ sym e)

same_within : (n : ℕ) (t : Bytes) → valid_len_up_to t n ≡ start_within n t
unfolding start_within
same_within zero t = refl
same_within (suc n) t = λ k. cond (same_test (take (suc n) t) k) (suc n) (same_within n t k)

-- the longest start that std finds
pub valid_len_of_std : (t : Bytes) → utf8_valid_len t ≡ longest_start t
unfolding utf8_valid_len longest_start
valid_len_of_std t = same_within (length t) t

pub length_of_std : (t : Bytes) → IsUtf8 t → length t ≡ longest_start t
length_of_std t u = sym (utf8_valid_len-IsUtf8 t u) ∙ valid_len_of_std t

-- ---- a text of which a front is known to be well-formed

pub part_passed : (t : Bytes) (i m e : ℕ) → utf8 (take i t) ≡ true → IsUtf8 (take m (drop i t)) → i + m ≡ e → utf8 (take e t) ≡ true
part_passed t i m e u p h =
    ap utf8 (front_and_part i m e t h) ∙ utf8_append (take i t) (take m (drop i t)) u ∙ utf8_of_std (take m (drop i t)) p
