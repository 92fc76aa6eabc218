-- How many LFs there are: over parts they add up, and there are no more than bytes.
use mathlib.Core.Path.{◌≡◌}
use Prim.Native.Nat.{◌+◌, ◌≤◌}
use native.Mathlib.Omega.{arith}
use mathlib.Core.List.{[], ◌∷◌, ◌++◌}
use lib.ListN.{length}
use Rattle.lines.specs.Bytes.{Bytes, is_lf, line_feeds}
use Rattle.lines.proofs.Bools.{by_cases}

pub line_feeds_append : (a b : Bytes) → line_feeds (a ++ b) ≡ line_feeds a + line_feeds b
unfolding line_feeds
line_feeds_append [] b = omega arith
line_feeds_append (x ∷ a) b =
    by_cases (is_lf x) (λ e. rw e (omega (arith, line_feeds_append a b))) (λ e. rw e (line_feeds_append a b))

pub line_feeds-length : (l : Bytes) → line_feeds l ≤ length l
unfolding line_feeds
line_feeds-length [] = omega arith
line_feeds-length (b ∷ bs) =
    by_cases (is_lf b) (λ e. rw e (omega (arith, line_feeds-length bs))) (λ e. rw e (omega (arith, line_feeds-length bs)))
