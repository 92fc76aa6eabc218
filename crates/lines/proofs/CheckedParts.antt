-- 3 and 4 in a file of two parts, the first of which is empty or ends in LF: a fault of the first part keeps its line
-- whatever follows, and one behind it is that of the rest, with the LFs of the first part before it.
use mathlib.Core.Path.{◌≡◌, refl, sym, ap, ◌∙◌}
use Prim.Native.Nat.{ℕ, zero, suc, ◌+◌, ◌≤◌}
use native.Mathlib.Omega.{arith}
use native.Mathlib.Nat.{add-zero, add-suc}
use mathlib.Core.Bool.{Bool, true, false, ◌&&◌}
use mathlib.Core.List.{[], ◌∷◌, ◌++◌, append_assoc}
use lib.ListN.{length, take, length-append}
use lib.Seq.{take-append_seam, take-append-le, take-append-add}
use Rattle.lines.specs.Laws.{plain}
use Rattle.lines.specs.Bytes.{Bytes, is_lf, control, all, line_feeds}
use Rattle.lines.specs.Utf8.{utf8, start_within, longest_start}
use Rattle.lines.specs.Files.{unterminated, first_control}
use Rattle.lines.proofs.Bools.{by_cases, impossible, and_left, and_right, and_assoc, not_true}
use Rattle.lines.proofs.LineFeeds.{line_feeds_append}
use Rattle.lines.proofs.Utf8Laws.{utf8_split, utf8_append}
use Rattle.lines.proofs.LongestStart.{start_no, start_yes}
use Rattle.lines.proofs.Physicals.{Cut, nothing, last, more, cut}
use Rattle.lines.proofs.Totals.{unterminated_last, unterminated_more}

-- ---- UTF-8

-- the two parts are judged by themselves
parts_cut : (p : Bytes) → Cut p → (q : Bytes) → unterminated p ≡ false → utf8 (p ++ q) ≡ (utf8 p && utf8 q)
parts_cut p nothing q h = unfold utf8 in refl
parts_cut p (last b bs k) q h = impossible (sym h ∙ unterminated_last b bs k)
parts_cut p (more l rest k c) q h =
    ap utf8 (append_assoc l (0x0A ∷ rest) q)
    ∙ utf8_split l 0x0A (rest ++ q) refl
    ∙ ap (λ (x : Bool). utf8 l && x) (parts_cut rest c q (sym (unterminated_more l rest) ∙ h))
    ∙ sym (and_assoc (utf8 l) (utf8 rest) (utf8 q))
    ∙ ap (λ (x : Bool). x && utf8 q) (sym (utf8_split l 0x0A rest refl))

pub utf8_parts : (p q : Bytes) → unterminated p ≡ false → utf8 (p ++ q) ≡ (utf8 p && utf8 q)
utf8_parts p q h = parts_cut p (cut p) q h

-- ---- the LFs before the place of 3

-- those of the longest well-formed start
abbrev pub start_feeds : Bytes → ℕ
start_feeds f = line_feeds (take (longest_start f) f)

-- behind a well-formed part, the longest start is that of the rest
within-behind : (n : ℕ) (a b : Bytes) → utf8 a ≡ true → start_within (length a + n) (a ++ b) ≡ length a + start_within n b
within-behind zero a b u =
    rw (add-zero (length a)) (start_yes (a ++ b) (length a) (ap utf8 (take-append_seam a b) ∙ u) ∙ unfold start_within in (sym (add-zero (length a))))
within-behind (suc n) a b u =
    let e : utf8 (take (length a + suc n) (a ++ b)) ≡ utf8 (take (suc n) b) =
    ap utf8 (take-append-add a b (suc n)) ∙ utf8_append a (take (suc n) b) u in
    by_cases (utf8 (take (suc n) b))
    (λ y. start_yes (a ++ b) (length a + suc n) (e ∙ y) ∙ ap (λ (k : ℕ). length a + k) (sym (start_yes b (suc n) y)))
    (λ y.
    let s : length a + suc n ≡ suc (length a + n) = add-suc (length a) n in
    ap (λ (k : ℕ). start_within k (a ++ b)) s
    ∙ start_no (a ++ b) (length a + n) (ap (λ (k : ℕ). utf8 (take k (a ++ b))) (sym s) ∙ e ∙ y)
    ∙ within-behind n a b u
    ∙ ap (λ (k : ℕ). length a + k) (sym (start_no b n y)))

pub start_behind : (a b : Bytes) → utf8 a ≡ true → start_feeds (a ++ b) ≡ line_feeds a + start_feeds b
unfolding longest_start
start_behind a b u =
    let e : start_within (length (a ++ b)) (a ++ b) ≡ length a + start_within (length b) b =
    ap (λ (k : ℕ). start_within k (a ++ b)) (length-append a b) ∙ within-behind (length b) a b u in
    ap (λ (k : ℕ). line_feeds (take k (a ++ b))) e
    ∙ ap line_feeds (take-append-add a b (start_within (length b) b))
    ∙ line_feeds_append a (take (start_within (length b) b) b)

-- of the starts inside a part, what follows decides nothing
within-part : (n : ℕ) (p q : Bytes) → n ≤ length p → start_within n (p ++ q) ≡ start_within n p
unfolding start_within
within-part zero p q h = refl
within-part (suc n) p q h = rw (take-append-le (suc n) p q h, within-part n p q (omega arith))

within_le : (n : ℕ) (f : Bytes) → start_within n f ≤ n
unfolding start_within
within_le zero f = omega arith
within_le (suc n) f = by_cases (utf8 (take (suc n) f)) (λ e. rw e (omega arith)) (λ e. rw e (omega (arith, within_le n f)))

-- and one that is not well-formed has the longest start in it
within_front : (n : ℕ) (p q : Bytes) → unterminated p ≡ false → utf8 p ≡ false
    → start_within (length p + n) (p ++ q) ≡ start_within (length p) p
within_front zero p q h u = rw (add-zero (length p)) (within-part (length p) p q (omega arith))
within_front (suc n) p q h u =
    let s : length p + suc n ≡ suc (length p + n) = add-suc (length p) n in
    let e : utf8 (take (length p + suc n) (p ++ q)) ≡ false =
    ap utf8 (take-append-add p q (suc n)) ∙ utf8_parts p (take (suc n) q) h ∙ ap (λ (x : Bool). x && utf8 (take (suc n) q)) u in
    ap (λ (k : ℕ). start_within k (p ++ q)) s
    ∙ start_no (p ++ q) (length p + n) (ap (λ (k : ℕ). utf8 (take k (p ++ q))) (sym s) ∙ e)
    ∙ within_front n p q h u

pub start_front : (p q : Bytes) → unterminated p ≡ false → utf8 p ≡ false → start_feeds (p ++ q) ≡ start_feeds p
unfolding longest_start
start_front p q h u =
    let e : start_within (length (p ++ q)) (p ++ q) ≡ start_within (length p) p =
    ap (λ (k : ℕ). start_within k (p ++ q)) (length-append p q) ∙ within_front (length q) p q h u in
    ap (λ (k : ℕ). line_feeds (take k (p ++ q))) e
    ∙ ap line_feeds (take-append-le (start_within (length p) p) p q (within_le (length p) p))

-- ---- the LFs before the place of 4

-- those before the first control byte
abbrev pub control_feeds : Bytes → ℕ
control_feeds f = line_feeds (take (first_control f) f)

pub control-behind : (a b : Bytes) → all plain a ≡ true → control_feeds (a ++ b) ≡ line_feeds a + control_feeds b
unfolding all first_control line_feeds
control-behind [] b h = omega arith
control-behind (x ∷ a) b h =
    let ih : control_feeds (a ++ b) ≡ line_feeds a + control_feeds b = control-behind a b (and_right (plain x) (all plain a) h) in
    rw (not_true (control x) (and_left (plain x) (all plain a) h))
    (by_cases (is_lf x) (λ e. rw e (omega (arith, ih))) (λ e. rw e ih))
