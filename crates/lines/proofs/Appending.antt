-- A file whose first part ends in LF, or is empty, has the lines of the first part and then those of
-- the second.
use mathlib.Core.Path.{◌≡◌, sym, ap, ap₂, ◌∙◌}
use Prim.Native.Nat.{ℕ, suc, ◌+◌}
use native.Mathlib.Omega.{arith}
use native.Mathlib.Nat.{add-zero}
use mathlib.Core.Bool.{false}
use mathlib.Core.List.{List, ◌∷◌, ◌++◌, append_assoc}
use lib.ListN.{length, length-append}
use Rattle.lines.specs.Bytes.{Bytes, line_feeds}
use Rattle.lines.specs.Lines.{Line, physical}
use Rattle.lines.specs.Files.{unterminated}
use Rattle.lines.proofs.Bools.{impossible}
use Rattle.lines.proofs.LineFeeds.{line_feeds_append}
use Rattle.lines.proofs.Physicals.{shut_line, physical_cons, line_feeds_none, Cut, nothing, last, more, cut}
use Rattle.lines.proofs.Totals.{unterminated_last, unterminated_more}

append_cut : (n a : ℕ) (p : Bytes) → Cut p → (q : Bytes) → unterminated p ≡ false
    → physical n a (p ++ q) ≡ physical n a p ++ physical (n + line_feeds p) (a + length p) q
unfolding physical line_feeds
append_cut n a p nothing q h = rw (add-zero n, add-zero a)
append_cut n a p (last b bs k) q h = impossible (sym h ∙ unterminated_last b bs k)
append_cut n a p (more l rest k c) q h =
    let lf : line_feeds (l ++ 0x0A ∷ rest) ≡ suc (line_feeds rest) =
    line_feeds_append l (0x0A ∷ rest) ∙ omega (arith, line_feeds_none l k) in
    let i : suc n + line_feeds rest ≡ n + line_feeds (l ++ 0x0A ∷ rest) = omega (arith, lf) in
    let j : suc (a + length l) + length rest ≡ a + length (l ++ 0x0A ∷ rest) = omega (arith, length-append l (0x0A ∷ rest)) in
    ap (physical n a) (append_assoc l (0x0A ∷ rest) q)
    ∙ physical_cons l (rest ++ q) n a k
    ∙ ap (λ (r : List Line). shut_line n a l ∷ r) (append_cut (suc n) (suc (a + length l)) rest c q (sym (unterminated_more l rest) ∙ h))
    ∙ ap₂ (λ (x y : ℕ). shut_line n a l ∷ (physical (suc n) (suc (a + length l)) rest ++ physical x y q)) i j
    ∙ ap (λ (r : List Line). r ++ physical (n + line_feeds (l ++ 0x0A ∷ rest)) (a + length (l ++ 0x0A ∷ rest)) q) (sym (physical_cons l rest n a k))

pub physical_append : (p q : Bytes) (n a : ℕ) → unterminated p ≡ false
    → physical n a (p ++ q) ≡ physical n a p ++ physical (n + line_feeds p) (a + length p) q
physical_append p q n a h = append_cut n a p (cut p) q h
