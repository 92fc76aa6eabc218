-- Laws of `Puts`: nothing, one byte, a copied part, and one part behind another.
use mathlib.Core.Path.{◌≡◌, refl, sym, ap, ◌∙◌}
use Prim.Native.Nat.{ℕ, ◌+◌, ◌≤◌, ◌<◌}
use native.Mathlib.Nat.{add-zero}
use native.Mathlib.Numerals.{add-one}
use native.Mathlib.Omega.{arith}
use mathlib.Core.Bool.{cond}
use mathlib.Core.List.{[], ◌∷◌, ◌++◌, append_assoc}
use lib.ListN.{length, set, length-append}
use lib.Seq.{set_split}
use lib.Dec.{leb}
use Rattle.lines.specs.Bytes.{Bytes}
use Rattle.lines.specs.Buffers.{put, Puts}
use Rattle.lines.proofs.Buffers.{put_nil, length-put, put-put, copied}

pub puts_nothing : (d : Bytes) (at : ℕ) → Puts d at [] at d
puts_nothing d at = record { behind = sym (add-zero at); after = sym (put_nil d at) }

pub puts_byte : (d : Bytes) (at b : ℕ) → at < length d → Puts d at (b ∷ []) (at + 1) (set d at b)
puts_byte d at b h = record { behind = refl; after = set_split d at b h ∙ rw (add-one, append_assoc) }

-- what `copy_into` leaves where the part fits
pub puts_copied : (d : Bytes) (at : ℕ) (p : Bytes) (d' : Bytes) → at + length p ≤ length d
    → d' ≡ cond (leb (at + length p) (length d)) (put d at p) d → Puts d at p (at + length p) d'
puts_copied d at p d' h e = record { behind = refl; after = copied d d' p at h e }

pub puts_then : {d : Bytes} {at : ℕ} {xs ys : Bytes} {m r : ℕ} {d' d'' : Bytes} → at + length xs ≤ length d
    → Puts d at xs m d' → Puts d' m ys r d'' → Puts d at (xs ++ ys) r d''
puts_then {d} {at} {xs} {ys} h p q =
    record {
      behind = omega (arith, p.behind, q.behind, length-append xs ys);
      after = q.after ∙ rw (p.after, p.behind) (put-put d at xs ys (omega arith));
    }

-- the buffer is as long as before
pub puts_length : {d : Bytes} {at : ℕ} {xs : Bytes} {m : ℕ} {d' : Bytes} → at + length xs ≤ length d → Puts d at xs m d' → length d' ≡ length d
puts_length {d} {at} {xs} h p = ap length p.after ∙ length-put d at xs h

-- one byte more, at the index behind
pub puts_snoc : {d : Bytes} {at : ℕ} {xs : Bytes} {m : ℕ} {d' : Bytes} (b i : ℕ) → i ≡ m → at + length xs < length d
    → Puts d at xs m d' → Puts d at (xs ++ b ∷ []) (i + 1) (set d' i b)
puts_snoc {d} {at} {xs} {m} {d'} b i e h p =
    rw e (puts_then (omega arith) p (puts_byte d' m b (omega (arith, p.behind, puts_length (omega arith) p))))
