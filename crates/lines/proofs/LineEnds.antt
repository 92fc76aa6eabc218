-- Lines without the offsets of their ends: joining goes by bytes alone, so it commutes with leaving the ends out; and
-- the offset that a part of a file starts at decides nothing but the ends.
use mathlib.Core.Path.{◌≡◌, refl, sym, ap, ◌∙◌}
use Prim.Native.Nat.{ℕ, suc}
use mathlib.Core.Option.{none}
use mathlib.Core.List.{List, [], ◌∷◌, ◌++◌}
use Rattle.lines.specs.Bytes.{Bytes, is_lf}
use Rattle.lines.specs.Lines.{Line, prepend, physical, comment, continued, join_next, joined}
use Rattle.lines.specs.CommentLaws.{without_ends}
use Rattle.lines.proofs.Bools.{by_cases}

pub without_ends_append : (a b : List Line) → without_ends (a ++ b) ≡ without_ends a ++ without_ends b
unfolding without_ends
without_ends_append [] b = refl
without_ends_append (l ∷ a) b = rw (without_ends_append a b)

-- ---- joining

-- a line without its end
abbrev endless : Line → Line
endless l = record { number = l.number; bytes = l.bytes; end = none }

join_next-ends : (l : Line) (ls : List Line) → without_ends (join_next l ls) ≡ join_next (endless l) (without_ends ls)
unfolding join_next without_ends
join_next-ends l [] = refl
join_next-ends l (k ∷ ks) = refl

pub joined-ends : (ls : List Line) → without_ends (joined ls) ≡ joined (without_ends ls)
unfolding joined without_ends
joined-ends [] = refl
joined-ends (l ∷ ls) =
    by_cases (comment l.bytes)
    (λ c. rw c (joined-ends ls))
    (λ c.
    by_cases (continued l.bytes)
    (λ o. rw (c, o) (join_next-ends l (joined ls) ∙ ap (join_next (endless l)) (joined-ends ls)))
    (λ o. rw (c, o) (ap (λ (r : List Line). endless l ∷ r) (joined-ends ls))))

-- ---- physical lines

prepend-ends : (n b : ℕ) (ls : List Line) → without_ends (prepend n b ls) ≡ prepend n b (without_ends ls)
unfolding prepend without_ends
prepend-ends n b [] = refl
prepend-ends n b (l ∷ ls) = refl

pub physical-ends : (f : Bytes) (n a b : ℕ) → without_ends (physical n a f) ≡ without_ends (physical n b f)
unfolding physical without_ends
physical-ends [] n a b = refl
physical-ends (c ∷ f) n a b =
    by_cases (is_lf c)
    (λ e. rw e (ap (λ (r : List Line). record { number = n; bytes = []; end = none } ∷ r) (physical-ends f (suc n) (suc a) (suc b))))
    (λ e. rw e (prepend-ends n c (physical n (suc a) f) ∙ ap (prepend n c) (physical-ends f n (suc a) (suc b)) ∙ sym (prepend-ends n c (physical n (suc b) f))))

-- lines joined behind others
pub joined_offset : (x : List Line) (f : Bytes) (n a b : ℕ)
    → without_ends (joined (x ++ physical n a f)) ≡ without_ends (joined (x ++ physical n b f))
joined_offset x f n a b =
    joined-ends (x ++ physical n a f)
    ∙ ap joined (without_ends_append x (physical n a f)
    ∙ ap (λ (r : List Line). without_ends x ++ r) (physical-ends f n a b)
    ∙ sym (without_ends_append x (physical n b f)))
    ∙ sym (joined-ends (x ++ physical n b f))
