-- Ends that fit never fall; and what the last end is.
use mathlib.Core.Path.{◌≡◌, refl, sym, ◌∙◌}
use Rattle.std.specs.Prelude.{unwrap_or, slice_get}
use Rattle.std.proofs.lemmas.Option.{unwrap_or-slice_get}
use Prim.Native.Nat.{ℕ, suc, ◌-◌, ◌≤◌, ◌<◌}
use native.Mathlib.Omega.{arith}
use mathlib.Core.Bool.{true, ◌&&◌}
use mathlib.Core.List.{List, [], ◌∷◌}
use lib.ListN.{length, get_or}
use lib.Dec.{leb}
use borrow.Author.Tests.{leb-true}
use Rattle.lines.proofs.Bools.{and_left, and_right}
use Rattle.items.specs.Write.{ends_fit, last_end}

-- what is known of the first end
pub record FirstEnd (at n e : ℕ) (es : List ℕ) : Type 0 where
  pub above : at ≤ e
  pub inside : e ≤ n
  pub others : ends_fit e n es ≡ true

pub first_end : (at n e : ℕ) (es : List ℕ) → (leb at e && leb e n && ends_fit e n es) ≡ true → FirstEnd at n e es
first_end at n e es h =
    let l = and_left (leb at e && leb e n) (ends_fit e n es) h in
    record {
      above = leb-true at e (and_left (leb at e) (leb e n) l);
      inside = leb-true e n (and_right (leb at e) (leb e n) l);
      others = and_right (leb at e && leb e n) (ends_fit e n es) h;
    }

-- no end lies before the start
pub last_above : (es : List ℕ) (at n : ℕ) → ends_fit at n es ≡ true → at ≤ last_end at es
unfolding ends_fit
last_above [] at n h = omega arith
last_above (e ∷ es) at n h =
    let f = first_end at n e es h in
    omega (arith, last_above es e n f.others)

last_some : (es : List ℕ) (at : ℕ) → 0 < length es → last_end at es ≡ get_or es (length es - 1) 0
last_some [] at h = absurd (omega arith)
last_some (e ∷ []) at h = refl
last_some (e ∷ f ∷ fs) at h =
    let m : length (e ∷ f ∷ fs) - 1 ≡ suc (length (f ∷ fs) - 1) = omega arith in
    rw m (last_some (f ∷ fs) e (omega arith))

-- as std's `last` and `unwrap_or` find it
pub last_is : (es : List ℕ) → unwrap_or (slice_get es (length es - 1)) 0 ≡ last_end 0 es
last_is [] = refl
last_is (e ∷ es) = unwrap_or-slice_get (e ∷ es) (length (e ∷ es) - 1) 0 ∙ sym (last_some (e ∷ es) 0 (omega arith))
