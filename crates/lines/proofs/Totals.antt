-- The logical lines, with one byte each for their LF, are together at most the size of the file. Physical lines are exactly its size, and joining only shortens.
use mathlib.Core.Path.{◌≡◌, refl, sym, ap, ◌∙◌}
use Prim.Native.Nat.{ℕ, suc, ◌+◌, ◌≤◌}
use native.Mathlib.Omega.{arith}
use mathlib.Core.Bool.{true, not}
use mathlib.Core.List.{List, [], ◌∷◌, ◌++◌}
use lib.ListN.{length, length-append}
use Rattle.lines.specs.Laws.{no_lf, total}
use Rattle.lines.specs.Bytes.{Bytes, is_lf, all}
use Rattle.lines.specs.Lines.{Line, physical, comment, continued, spaced, joined, logical}
use Rattle.lines.specs.Files.{unterminated, size}
use Rattle.lines.proofs.Bools.{by_cases, and_left, and_right}
use Rattle.lines.proofs.Runs.{spaced-length}
use Rattle.lines.proofs.Joining.{waiting, joined_nil, joined-comment, joined_line, joined_open}
use Rattle.lines.proofs.Physicals.{physical_cons, physical_last, Cut, nothing, last, more, cut}

-- ---- physical lines

pub unterminated_last : (b : ℕ) (bs : Bytes) → no_lf (b ∷ bs) ≡ true → unterminated (b ∷ bs) ≡ true
unfolding unterminated no_lf all
unterminated_last b [] h = and_left (not (is_lf b)) true h
unterminated_last b (c ∷ cs) h = unterminated_last c cs (and_right (not (is_lf b)) (no_lf (c ∷ cs)) h)

pub unterminated_more : (l rest : Bytes) → unterminated (l ++ 0x0A ∷ rest) ≡ unterminated rest
unfolding unterminated
unterminated_more [] [] = refl
unterminated_more [] (c ∷ cs) = refl
unterminated_more (b ∷ []) rest = unterminated_more [] rest
unterminated_more (b ∷ c ∷ l) rest = unterminated_more (c ∷ l) rest

size_more : (l rest : Bytes) → size (l ++ 0x0A ∷ rest) ≡ suc (length l) + size rest
unfolding size
size_more l rest =
    let n : length (l ++ 0x0A ∷ rest) ≡ length l + suc (length rest) = length-append l (0x0A ∷ rest) in
    rw (unterminated_more l rest) (by_cases (unterminated rest) (λ e. rw e (omega arith)) (λ e. rw e (omega arith)))

total_cut : (n a : ℕ) (f : Bytes) → Cut f → total (physical n a f) ≡ size f
unfolding total physical size unterminated
total_cut n a f nothing = refl
total_cut n a f (last b bs h) = ap total (physical_last b bs n a h) ∙ rw (unterminated_last b bs h) (omega arith)
total_cut n a f (more l rest h k) =
    ap total (physical_cons l rest n a h)
    ∙ ap (λ (t : ℕ). suc (length l) + t) (total_cut (suc n) (suc (a + length l)) rest k)
    ∙ sym (size_more l rest)

pub physical-total : (f : Bytes) (n a : ℕ) → total (physical n a f) ≡ size f
physical-total f n a = total_cut n a f (cut f)

-- ---- logical lines

waiting_total : (m : ℕ) (a : Bytes) (ls : List Line) → total (waiting m a ls) ≤ suc (length a) + total ls
unfolding waiting total
waiting_total m a [] = omega arith
waiting_total m a (k ∷ ks) = omega (arith, length-append a k.bytes)

pub joined-total : (ls : List Line) → total (joined ls) ≤ total ls
unfolding total
joined-total [] = omega (arith, ap total joined_nil)
joined-total (l ∷ ls) =
    let ih : total (joined ls) ≤ total ls = joined-total ls in
    by_cases (comment l.bytes)
    (λ c. omega (arith, ap total (joined-comment l ls c)))
    (λ c.
    by_cases (continued l.bytes)
    (λ e. omega (arith, ap total (joined_open l ls c e), waiting_total l.number (spaced l.bytes) (joined ls), spaced-length l.bytes))
    (λ e. omega (arith, ap total (joined_line l ls c e))))

pub logical-total : (f : Bytes) → total (logical f) ≤ size f
unfolding logical
logical-total f = omega (arith, joined-total (physical 1 0 f), physical-total f 1 0)
