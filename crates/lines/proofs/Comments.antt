-- Blanks alone are no comment, and are no continued line either. What is joined is what stands between the comments.
use mathlib.Core.Path.{◌≡◌, refl, sym, ap, ◌∙◌}
use Prim.Native.Nat.{◌≤◌}
use mathlib.Core.Bool.{true, false}
use mathlib.Core.List.{List, [], ◌∷◌}
use Rattle.lines.specs.Bytes.{Bytes, blank, all}
use Rattle.lines.specs.Lines.{Line, physical, comment, closing_run, odd, continued, joined, logical}
use Rattle.lines.specs.Laws.{total}
use Rattle.lines.specs.CommentLaws.{without_comments}
use Rattle.lines.proofs.Bools.{by_cases, and_left, and_right, neq_byte}
use Rattle.lines.proofs.Joining.{joined_line}
use Rattle.lines.proofs.Totals.{joined-total}

-- ---- blanks alone

comment_blanks : (l : Bytes) → all blank l ≡ true → comment l ≡ false
unfolding comment all
comment_blanks [] h = refl
comment_blanks (b ∷ bs) h =
    let k : blank b ≡ true = and_left (blank b) (all blank bs) h in
    rw (neq_byte blank 0x23 b refl k, neq_byte blank 0x3B b refl k)

closing_blanks : (l : Bytes) → all blank l ≡ true → closing_run l ≡ 0
unfolding closing_run all
closing_blanks [] h = refl
closing_blanks (b ∷ bs) h =
    rw (neq_byte blank 0x5C b refl (and_left (blank b) (all blank bs) h))
    (closing_blanks bs (and_right (blank b) (all blank bs) h))

continued_blanks : (l : Bytes) → all blank l ≡ true → continued l ≡ false
unfolding continued odd
continued_blanks l h = ap odd (closing_blanks l h)

pub blanks_kept : (l : Line) (ls : List Line) → all blank l.bytes ≡ true → joined (l ∷ ls) ≡ l ∷ joined ls
blanks_kept l ls h = joined_line l ls (comment_blanks l.bytes h) (continued_blanks l.bytes h)

-- ---- what is joined

-- a line in front of others that are joined alike
joined-behind : (l : Line) (ls ks : List Line) → joined ls ≡ joined ks → joined (l ∷ ls) ≡ joined (l ∷ ks)
unfolding joined
joined-behind l ls ks h = rw h

joined_apart : (ls : List Line) → joined ls ≡ joined (without_comments ls)
unfolding joined without_comments
joined_apart [] = refl
joined_apart (l ∷ ls) =
    by_cases (comment l.bytes)
    (λ e. rw e (joined_apart ls))
    (λ e.
    let w : without_comments (l ∷ ls) ≡ l ∷ without_comments ls = rw e in
    joined-behind l ls (without_comments ls) (joined_apart ls) ∙ ap joined (sym w))

pub comments_apart : (f : Bytes) → logical f ≡ joined (without_comments (physical 1 0 f))
unfolding logical
comments_apart f = joined_apart (physical 1 0 f)

pub comments_not_counted : (f : Bytes) → total (logical f) ≤ total (without_comments (physical 1 0 f))
comments_not_counted f = rw (comments_apart f) (joined-total (without_comments (physical 1 0 f)))
