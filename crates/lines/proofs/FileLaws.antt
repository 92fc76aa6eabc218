-- The check of a file: its size by its last byte, and what holds of a pass from character to character.
-- The bytes after the first of a character are 80 or above, so only first bytes can be LF or a control byte.
use mathlib.Core.Path.{◌≡◌, refl, sym, ap, subst, ◌∙◌}
use Prim.Native.Nat.{ℕ, zero, suc, ◌+◌, ◌≤◌, ◌<◌, zero-le}
use native.Mathlib.Omega.{arith}
use mathlib.Core.Bool.{Bool, true, false, not, cond}
use mathlib.Core.List.{[], ◌∷◌, ◌++◌}
use lib.ListN.{length, take, drop, get_or, length-drop, take-append-drop}
use lib.Seq.{drop-cons, take-add, take_all, length-take-le}
use lib.Dec.{leb, ltb, eqb, leb-zero, eqb-suc-zero}
use borrow.Author.Tests.{ltb-false, not-false, leb-true, lt-leb, le-leb, lt-ltb, le-ltb, ne_eqb}
use Rattle.lines.specs.Laws.{plain, Sound}
use Rattle.lines.specs.Bytes.{Bytes, any, is_lf, between, control, all, line_feeds}
use Rattle.lines.specs.Utf8.{utf8, well, longest_start}
use Rattle.lines.specs.CharSteps.{char_length, long_length, control_after}
use Rattle.lines.specs.Answers.{accepted, refused}
use Rattle.lines.specs.Files.{checked_file, unterminated, size, line_at, first_control, checked_bytes}
use Rattle.lines.proofs.Bools.{by_cases, clash, any-all, and_left, and_right, all_append, all_imp, not_true, impossible}
use Rattle.lines.proofs.LineFeeds.{line_feeds_append, line_feeds-length}
use Rattle.lines.proofs.Slices.{front_and_part}
use Rattle.lines.proofs.Utf8Laws.{high_byte, utf8_append}
use Rattle.lines.proofs.Characters.{Character, character, ascii_at, long_at}
use Rattle.lines.proofs.LongestStart.{not_utf8, start_ends, longest_start-all, start_legal}
use Rattle.lines.proofs.Chains.{FirstOf, first_control_is}
use Rattle.std.specs.Prelude.{Some, None}

-- ---- size

unterminated_at : (f : Bytes) (n : ℕ) → length f ≡ suc n → unterminated f ≡ not (is_lf (get_or f n 0))
unfolding unterminated
unterminated_at [] n e = absurd (omega arith)
unterminated_at (b ∷ []) zero e = refl
unterminated_at (b ∷ []) (suc n) e = absurd (omega arith)
unterminated_at (b ∷ c ∷ cs) zero e = absurd (omega arith)
unterminated_at (b ∷ c ∷ cs) (suc n) e = unterminated_at (c ∷ cs) n (omega arith)

pub size_below : (n : ℕ) (f : Bytes) → length f < n → ltb n (size f) ≡ false
unfolding size
size_below n f h =
    by_cases (unterminated f)
    (λ e. rw e (le-ltb n (length f + 1) (omega arith)))
    (λ e. rw e (le-ltb n (length f) (omega arith)))

pub size_over : (n : ℕ) (f : Bytes) → n < length f → ltb n (size f) ≡ true
unfolding size
size_over n f h =
    by_cases (unterminated f)
    (λ e. rw e (lt-ltb n (length f + 1) (omega arith)))
    (λ e. rw e (lt-ltb n (length f) (omega arith)))

-- at the limit the last byte decides
pub size_at : (n : ℕ) (f : Bytes) → length f ≡ suc n → ltb (suc n) (size f) ≡ not (is_lf (get_or f n 0))
unfolding size
size_at n f h =
    by_cases (unterminated f)
    (λ e. rw (e, ← unterminated_at f n h, e) (lt-ltb (suc n) (length f + 1) (omega arith)))
    (λ e. rw (e, ← unterminated_at f n h, e) (le-ltb (suc n) (length f) (omega arith)))

-- ---- bytes 80 and above: no LF, no control byte

high_plain : (b : ℕ) → high_byte b ≡ true → plain b ≡ true
high_plain b h =
    let k : 0x80 ≤ b = leb-true 0x80 b h in
    rw (leb-zero b, lt-leb b 0x1F (omega arith), ne_eqb b 0x7F (omega arith))

high_feeds : (l : Bytes) → all high_byte l ≡ true → line_feeds l ≡ 0
unfolding all line_feeds
high_feeds [] h = refl
high_feeds (b ∷ l) h =
    let k : 0x80 ≤ b = leb-true 0x80 b (and_left (high_byte b) (all high_byte l) h) in
    rw (ne_eqb b 0x0A (omega arith)) (high_feeds l (and_right (high_byte b) (all high_byte l) h))

-- ---- lines

-- the line of what follows a byte
abbrev line_after : ℕ → ℕ → ℕ
line_after line b = cond (is_lf b) (line + 1) line

-- a character more
feeds_more : (a : Bytes) (b : ℕ) (t : Bytes) → all high_byte t ≡ true
    → suc (line_feeds (a ++ b ∷ t)) ≡ line_after (suc (line_feeds a)) b
unfolding line_feeds
feeds_more a b t h =
    let e = line_feeds_append a (b ∷ t) in
    let z = high_feeds t h in
    by_cases (is_lf b)
    (λ y. let e' = rw y at e in rw y (omega arith))
    (λ y. let e' = rw y at e in rw y (omega arith))

-- ---- the line of the first control byte, 0 where there is none

unfoldable pub control_line : Bytes → ℕ
unfolding all line_at first_control
control_line d = cond (all plain d) 0 (line_at (first_control d) d)

-- where there is one, what follows does not count
pub first_stays : (a c : Bytes) → all plain a ≡ false
    → line_feeds (take (first_control (a ++ c)) (a ++ c)) ≡ line_feeds (take (first_control a) a)
unfolding all first_control line_feeds
first_stays [] c h = impossible (sym h)
first_stays (x ∷ a) c h =
    by_cases (control x)
    (λ y. rw y)
    (λ y. rw (y, first_stays a c (rw y at h)))

-- where there is none, the next byte may be it
first_here : (a : Bytes) (b : ℕ) (t : Bytes) → all plain a ≡ true → control b ≡ true
    → line_feeds (take (first_control (a ++ b ∷ t)) (a ++ b ∷ t)) ≡ line_feeds a
unfolding all first_control line_feeds
first_here [] b t h k = rw k
first_here (x ∷ a) b t h k =
    rw (
      not_true (control x) (and_left (plain x) (all plain a) h),
      first_here a b t (and_right (plain x) (all plain a) h) k,
    )

control_more : (a : Bytes) (b : ℕ) (t : Bytes) → all high_byte t ≡ true
    → control_line (a ++ b ∷ t) ≡ control_after (control_line a) (suc (line_feeds a)) b
unfolding control_line
control_more a b t h = go (all plain a) refl (control b) refl
  where
    plain_t : all plain t ≡ true
    plain_t = all_imp high_byte plain high_plain t h

    go : (p : Bool) → all plain a ≡ p → (q : Bool) → control b ≡ q
        → control_line (a ++ b ∷ t) ≡ control_after (control_line a) (suc (line_feeds a)) b
    go false e q y = rw (all_append plain a (b ∷ t), e, first_stays a (b ∷ t) e, eqb-suc-zero)
    go true e true y = rw (all_append plain a (b ∷ t), e, y, first_here a b t e y)
    go true e false y = rw (all_append plain a (b ∷ t), e, y, plain_t)

-- ---- the pass

-- i bytes of the file are passed, and they are whole characters: `line` is the line of what follows,
-- `found` the line of the first control byte among them
pub record Passed (f : Bytes) (i line found : ℕ) : Type 0 where
  pub inside : i ≤ length f
  pub legal : utf8 (take i f) ≡ true
  pub lines : line ≡ line_at i f
  pub first : found ≡ control_line (take i f)

pub passed_start : (f : Bytes) → Passed f 0 1 0
unfolding utf8 well line_at line_feeds control_line all
passed_start f = record { inside = zero-le; legal = refl; lines = refl; first = refl }

-- each line but the first begins after an LF
pub line_fits : {f : Bytes} {i line found : ℕ} → Passed f i line found → line ≤ i + 1
unfolding line_at
line_fits {f} {i} p = omega (arith, p.lines, line_feeds-length (take i f), length-take-le i f p.inside)

-- a character of n bytes more
pub passed_more : {f : Bytes} {i line found : ℕ} (n : ℕ) → Passed f i line found → i < length f
    → n ≡ char_length (drop i f) → (n ≡ 0 → ⊥)
    → Passed f (i + n) (line_after line (get_or f i 0)) (control_after found line (get_or f i 0))
passed_more zero p h e ne = absurd (ne refl)
passed_more {f} {i} (suc k) p h e ne = record {
  inside = omega (arith, char.fits, length-drop (suc i) f);
  legal = rw more (utf8_append (take i f) (b ∷ t) p.legal ∙ char.legal);
  lines = unfold line_at in rw (more, feeds_more (take i f) b t char.rest, p.lines);
  first = rw (more, control_more (take i f) b t char.rest, ← p.first, p.lines) (unfold line_at in refl);
}
  where
    b : ℕ
    b = get_or f i 0

    t : Bytes
    t = take k (drop (suc i) f)

    char : Character b (drop (suc i) f) k
    char = character b (drop (suc i) f) k (ap char_length (sym (drop-cons f i 0 h)) ∙ sym e)

    more : take (i + suc k) f ≡ take i f ++ b ∷ t
    more = take-add i (suc k) f ∙ ap (λ (l : Bytes). take i f ++ take (suc k) l) (drop-cons f i 0 h)

-- the same by the first byte of the character
module _ {f : Bytes} {i line found : ℕ} (p : Passed f i line found) (h : i < length f) where
  abbrev b : ℕ
  b = get_or f i 0

  one : b ≤ 0x7F → Passed f (i + 1) (line_after line b) (control_after found line b)
  one k = passed_more 1 p h (sym (ascii_at f i h k)) (λ e. absurd (omega arith))

  no_control : control b ≡ false → control_after found line b ≡ found
  no_control c = by_cases (eqb found 0) (λ z. rw (z, c)) (λ z. rw z)

  no_feed : (b ≡ 0x0A → ⊥) → line_after line b ≡ line
  no_feed ne = rw (ne_eqb b 0x0A ne)

  -- from 20 to 7E
  pub passed_plain : between 0x20 0x7E (get_or f i 0) ≡ true → Passed f (i + 1) line found
  passed_plain w =
      let low : 0x20 ≤ b = leb-true 0x20 b (and_left (leb 0x20 b) (leb b 0x7E) w) in
      let top : b ≤ 0x7E = leb-true b 0x7E (and_right (leb 0x20 b) (leb b 0x7E) w) in
      let c : control b ≡ false = rw (leb-zero b, lt-leb b 0x1F (omega arith), ne_eqb b 0x7F (λ z. omega arith)) in
      rw (← no_feed (λ z. omega arith), ← no_control c) (one (omega arith))

  pub passed_feed : get_or f i 0 ≡ 0x0A → Passed f (i + 1) (line + 1) found
  passed_feed e =
      let l : line_after line b ≡ line + 1 = rw e in
      let c : control b ≡ false = rw e in
      rw (← l, ← no_control c) (one (omega (arith, e)))

  pub passed_other : (get_or f i 0 ≡ 0x0A → ⊥) → get_or f i 0 ≤ 0x7F → Passed f (i + 1) line (control_after found line (get_or f i 0))
  passed_other ne k = subst (λ (l : ℕ). Passed f (i + 1) l (control_after found line b)) (no_feed ne) (one k)

  -- 80 and above
  pub passed_long : (n : ℕ) → 0x7F < get_or f i 0 → n ≡ long_length (drop i f) → (n ≡ 0 → ⊥) → Passed f (i + n) line found
  passed_long n k e ne =
      let c = not_true (control b) (high_plain b (le-leb 0x80 b k)) in
      rw (← no_feed (λ z. omega arith), ← no_control c) (passed_more n p h (e ∙ sym (long_at f i h k)) ne)

-- no character stands there: refused with 3
pub passed_broken : {f : Bytes} {i line found : ℕ} → Passed f i line found → i < length f → 0x7F < get_or f i 0
    → long_length (drop i f) ≡ 0 → checked_bytes f ≡ refused 3 line
unfolding checked_bytes
passed_broken {f} {i} p h k z =
    let e = long_at f i h k ∙ z in
    let u : utf8 f ≡ false =
    ap utf8 (sym (take-append-drop i f) ∙ ap (λ (l : Bytes). take i f ++ l) (drop-cons f i 0 h))
    ∙ not_utf8 (take i f) (get_or f i 0) (drop (suc i) f) p.legal (ap char_length (sym (drop-cons f i 0 h)) ∙ e) in
    rw (u, start_ends f i p.inside p.legal e, p.lines)

-- the file has ended: control bytes decide
pub passed_ended : {f : Bytes} {i line found : ℕ} → Passed f i line found → length f ≤ i
    → checked_bytes f ≡ cond (eqb found 0) (accepted tt) (refused 4 found)
unfolding checked_bytes control_line line_at
passed_ended {f} {i} {found = found} p h =
    let u : utf8 f ≡ true = ap utf8 (sym (take_all i f h)) ∙ p.legal in
    let c : found ≡ control_line f = p.first ∙ ap control_line (take_all i f h) in
    by_cases (all plain f)
    (λ e. rw (u, any-all control f, e, c, e))
    (λ e. rw (u, any-all control f, e, c, e, eqb-suc-zero))

-- ---- 3 and 4, by where the well-formed start ends

-- it is the whole file where the file is well-formed
ends_before : (f : Bytes) → longest_start f < length f → utf8 f ≡ false
ends_before f h = by_cases (utf8 f) (λ e. absurd (omega (arith, longest_start-all f e))) (λ e. e)

ends_behind : (f : Bytes) → length f ≤ longest_start f → utf8 f ≡ true
ends_behind f h = ap utf8 (sym (take_all (longest_start f) f h)) ∙ start_legal f

pub checked_broken : (f : Bytes) → longest_start f < length f → checked_bytes f ≡ refused 3 (line_at (longest_start f) f)
unfolding checked_bytes
checked_broken f h = rw (ends_before f h)

-- whether there is a control byte, by the offset of the first
some_control : (f : Bytes) → first_control f < length f → any control f ≡ true
unfolding any first_control
some_control [] h = absurd (omega arith)
some_control (b ∷ bs) h = by_cases (control b) (λ e. rw e) (λ e. rw e (some_control bs (let k : suc (first_control bs) < suc (length bs) = rw e at h in omega arith)))

none_control : (f : Bytes) → length f ≤ first_control f → any control f ≡ false
unfolding any first_control
none_control [] h = refl
none_control (b ∷ bs) h =
    by_cases (control b)
    (λ e. absurd (let k : suc (length bs) ≤ 0 = rw e at h in omega arith))
    (λ e. rw e (none_control bs (let k : suc (length bs) ≤ suc (first_control bs) = rw e at h in omega arith)))

-- the answer by that offset
pub checked_first : (f : Bytes) → length f ≤ longest_start f → first_control f < length f
    → checked_bytes f ≡ refused 4 (line_at (first_control f) f)
unfolding checked_bytes
checked_first f h l = rw (ends_behind f h, some_control f l)

pub checked_clean : (f : Bytes) → length f ≤ longest_start f → any control f ≡ false → checked_bytes f ≡ accepted tt
unfolding checked_bytes
checked_clean f h e = rw (ends_behind f h, e)

pub checked_past : (f : Bytes) → length f ≤ longest_start f → length f ≤ first_control f → checked_bytes f ≡ accepted tt
checked_past f h l = checked_clean f h (none_control f l)

-- the same by what `position` finds
pub checked_control : (f : Bytes) (at : ℕ) → length f ≤ longest_start f → FirstOf control f (Some at) → checked_bytes f ≡ refused 4 (line_at at f)
checked_control f at h o =
    let e : first_control f ≡ at = first_control_is f (Some at) o in
    checked_first f h (omega (arith, e, o.0)) ∙ ap (λ n. refused 4 (line_at n f)) e

pub checked_whole : (f : Bytes) → length f ≤ longest_start f → FirstOf control f None → checked_bytes f ≡ accepted tt
checked_whole f h o =
    let e : first_control f ≡ length f = first_control_is f None o in
    checked_past f h (omega (arith, e))

-- ---- a file of which a front is known to have no control byte

no_more : (p : ℕ → Bool) (a b : Bytes) → any p a ≡ false → any p b ≡ false → any p (a ++ b) ≡ false
unfolding any
no_more p [] b h k = k
no_more p (x ∷ a) b h k =
    by_cases (p x) (λ e. impossible (sym (rw e at h))) (λ e. rw e (no_more p a b (rw e at h) k))

first_behind : (a b : Bytes) → any control a ≡ false → first_control (a ++ b) ≡ length a + first_control b
unfolding any first_control
first_behind [] b h = omega arith
first_behind (x ∷ a) b h =
    by_cases (control x)
    (λ e. impossible (sym (rw e at h)))
    (λ e. let k = first_behind a b (rw e at h) in rw e (omega (arith, k)))

pub first_from : (f : Bytes) (i : ℕ) → i ≤ length f → any control (take i f) ≡ false
    → first_control f ≡ i + first_control (drop i f)
first_from f i l h =
    ap first_control (sym (take-append-drop i f)) ∙ first_behind (take i f) (drop i f) h
    ∙ ap (λ n. n + first_control (drop i f)) (length-take-le i f l)

pub part_clean : (f : Bytes) (i m e : ℕ) → any control (take i f) ≡ false → any control (take m (drop i f)) ≡ false → i + m ≡ e
    → any control (take e f) ≡ false
part_clean f i m e h p k = ap (any control) (front_and_part i m e f k) ∙ no_more control (take i f) (take m (drop i f)) h p

-- ---- accepted exactly where none of the three is met

pub checked_sound : (f : Bytes) → checked_file f ≡ accepted (tt {0}) → Sound f
unfolding checked_file checked_bytes
checked_sound f e =
    by_cases (ltb 65535 (size f))
    (λ b. clash (let q : refused 2 0 ≡ accepted (tt {0}) = rw b at e in cc))
    (λ b. characters b (rw b at e))
  where
    bytes : ltb 65535 (size f) ≡ false → utf8 f ≡ true → cond (any control f) (refused 4 (line_at (first_control f) f)) (accepted (tt {0})) ≡ accepted (tt {0}) → Sound f
    bytes b u e =
        by_cases (any control f)
        (λ c. clash (let q : refused 4 (line_at (first_control f) f) ≡ accepted (tt {0}) = rw c at e in cc))
        (λ c. record { short = ltb-false 65535 (size f) b; characters = u; bytes = not-false (all plain f) (sym (any-all control f) ∙ c) })

    characters : ltb 65535 (size f) ≡ false
        → cond (not (utf8 f)) (refused 3 (line_at (longest_start f) f)) (cond (any control f) (refused 4 (line_at (first_control f) f)) (accepted (tt {0}))) ≡ accepted (tt {0}) → Sound f
    characters b e =
        by_cases (utf8 f)
        (λ u. bytes b u (rw u at e))
        (λ u. clash (let q : refused 3 (line_at (longest_start f) f) ≡ accepted (tt {0}) = rw u at e in cc))

pub sound_checked : (f : Bytes) → Sound f → checked_file f ≡ accepted tt
unfolding checked_file checked_bytes
sound_checked f s = rw (le-ltb 65535 (size f) s.short, s.characters, any-all control f, s.bytes)
