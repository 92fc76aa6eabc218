-- The verdicts on whole calls: when a lent list is written, what an accepted one has, and when a text is split. Each
-- goes by the tests in their order.
use mathlib.Core.Path.{◌≡◌, refl, ap, ◌∙◌}
use Prim.Native.Nat.{ℕ, ◌≤◌}
use native.Mathlib.Omega.{arith}
use mathlib.Core.Bool.{Bool, true, false, not, cond}
use lib.Dec.{leb, ltb}
use lib.ListN.{length}
use borrow.Author.Tests.{le-ltb, ltb-false, leb-true, ne_eqb, not-false}
use Rattle.lines.specs.Bytes.{Bytes, between, all, any}
use Rattle.lines.specs.Answers.{Outcome, accepted, refused}
use Rattle.lines.proofs.Bools.{and_left, any-all, all_imp, clash}
use Rattle.items.specs.Split.{bytes_of, split_in}
use Rattle.items.specs.Write.{written, ends_fit, items_in, nul, write_in}
use Rattle.items.specs.Laws.{LaidAgain, WriteAccepted, AcceptedHas, EnoughSpace}
use Rattle.items.proofs.LaidOut.{cut_laid_again}

pub enough_space : EnoughSpace
unfolding split_in
enough_space b e t h k = rw (le-ltb b 4096 h, le-ltb e 256 k)

-- bytes from 1 on have no NUL
no_nul : (bs : Bytes) → all (between 1 0xFF) bs ≡ true → any nul bs ≡ false
no_nul bs h =
    any-all nul bs
    ∙ ap not (all_imp (between 1 0xFF) (λ b. not (nul b)) (λ b e. ap not (ne_eqb b 0x00 (λ z. absurd (omega (arith, leb-true 1 b (and_left (leb 1 b) (leb b 0xFF) e), z))))) bs h)

pub write_accepted : WriteAccepted
unfolding write_in
write_accepted out bs ends h f w =
    let l : LaidAgain bs ends = cut_laid_again bs ends f in
    let n : length ends ≤ 256 = omega (arith, l.count, w.few) in
    rw (le-ltb out 4096 h, le-ltb 256 (length ends) n, f, no_nul (bytes_of (items_in bs ends)) w.bytes, le-ltb 4096 (length (written (items_in bs ends))) w.short)

-- where a test that refuses stands before, it is false
not_refused : (b : Bool) (n p : ℕ) (o : Outcome Bytes) (t : Bytes) → cond b (refused n p) o ≡ accepted t → (b ≡ false) × (o ≡ accepted t)
not_refused true n p o t h = clash cc
not_refused false n p o t h = (refl, h)

pub accepted_has : AcceptedHas
unfolding write_in
accepted_has out bs ends t h =
    let a = not_refused (ltb out 4096) 1 0 _ t h in
    let b = not_refused (ltb 256 (length ends)) 26 0 _ t a.1 in
    let c = not_refused (not (ends_fit 0 (length bs) ends)) 28 0 _ t b.1 in
    let d = not_refused (any nul (bytes_of (items_in bs ends))) 27 0 _ t c.1 in
    let e = not_refused (ltb 4096 (length (written (items_in bs ends)))) 20 0 _ t d.1 in
    let x : t ≡ written (items_in bs ends) = cc e.1 in
    record {
      space = ltb-false out 4096 a.0;
      few = ltb-false 256 (length ends) b.0;
      fit = not-false (ends_fit 0 (length bs) ends) c.0;
      no_nul = d.0;
      text = x;
      short = rw x (ltb-false 4096 (length (written (items_in bs ends))) e.0);
    }
