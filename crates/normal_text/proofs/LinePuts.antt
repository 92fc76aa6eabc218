-- The lines of the normal text as the code puts them: byte after byte, part after part.
use mathlib.Core.Path.{◌≡◌, refl, ap}
use Prim.Native.Nat.{ℕ, ◌+◌, ◌≤◌, ◌<◌}
use native.Mathlib.Omega.{arith}
use mathlib.Core.Bool.{true, false, cond}
use mathlib.Core.List.{[], ◌∷◌, ◌++◌, append_assoc}
use lib.ListN.{length, set, length-append, length-set}
use lib.Dec.{leb}
use Rattle.lines.specs.Bytes.{Bytes}
use Rattle.lines.specs.Lines.{continued}
use Rattle.lines.specs.Buffers.{put, Puts}
use Rattle.lines.proofs.Bools.{by_cases}
use Rattle.lines.proofs.Putting.{puts_byte, puts_copied, puts_then, puts_length, puts_snoc}
use Rattle.normal_text.specs.NormalText.{header_line, padded, entry_line}
use Rattle.normal_text.specs.Steps.{pair_with, with_lf}

-- ---- a section's line

pub header_length : (x : Bytes) → length (with_lf (header_line x)) ≡ length x + 3
unfolding header_line
header_length x = omega (arith, length-append (x ++ 0x5D ∷ []) (0x0A ∷ []), length-append x (0x5D ∷ []))

module _ (d : Bytes) (at : ℕ) (x d' : Bytes) (h : at + (length x + 3) ≤ length d)
    (e : d' ≡ cond (leb (at + 1 + length x) (length (set d at 0x5B))) (put (set d at 0x5B) (at + 1) x) (set d at 0x5B)) where
  -- its first byte and the name
  name_put : Puts d at (0x5B ∷ x) (at + 1 + length x) d'
  name_put =
      puts_then (omega arith) (puts_byte d at 0x5B (omega arith))
      (puts_copied (set d at 0x5B) (at + 1) x d' (omega (arith, length-set d at 0x5B)) e)

  pub header_put : Puts d at (with_lf (header_line x)) (at + 1 + length x + 2) (set (set d' (at + 1 + length x) 0x5D) (at + 1 + length x + 1) 0x0A)
  unfolding header_line
  header_put =
      let p : Puts d at (0x5B ∷ (x ++ 0x5D ∷ [])) (at + 1 + length x + 1) (set d' (at + 1 + length x) 0x5D) =
      puts_snoc 0x5D (at + 1 + length x) refl (omega arith) name_put in
      let q = puts_snoc 0x0A (at + 1 + length x + 1) refl (omega (arith, length-append x (0x5D ∷ []))) p in
      record { behind = omega (arith, q.behind); after = q.after }

-- ---- a value

pub padded-odd : (v : Bytes) → continued v ≡ true → padded v ≡ v ++ 0x20 ∷ []
unfolding padded
padded-odd v e = rw e

pub padded_even : (v : Bytes) → continued v ≡ false → padded v ≡ v
unfolding padded
padded_even v e = rw e

pub padded_longer : (v : Bytes) → length v ≤ length (padded v)
padded_longer v =
    by_cases (continued v)
    (λ e. rw (padded-odd v e) (omega (arith, length-append v (0x20 ∷ []))))
    (λ e. rw (padded_even v e) (omega arith))

module _ (d : Bytes) (at : ℕ) (v d' : Bytes) (h : at + length (padded v) ≤ length d)
    (e : d' ≡ cond (leb (at + length v) (length d)) (put d at v) d) where
  value_copied : Puts d at v (at + length v) d'
  value_copied = puts_copied d at v d' (omega (arith, padded_longer v)) e

  -- there is space for the space
  pub value_space : continued v ≡ true → at + length v < length d
  value_space c = omega (arith, ap length (padded-odd v c), length-append v (0x20 ∷ []))

  pub value-spaced : continued v ≡ true → Puts d at (padded v) (at + length v + 1) (set d' (at + length v) 0x20)
  value-spaced c = rw (padded-odd v c) (puts_snoc 0x20 (at + length v) refl (value_space c) value_copied)

  pub value-plain : continued v ≡ false → Puts d at (padded v) (at + length v) d'
  value-plain c = rw (padded_even v c) value_copied

-- ---- an entry's line

pub entry_length : (k v : Bytes) → length (with_lf (entry_line (pair_with k v))) ≡ length k + length (padded v) + 2
unfolding entry_line
entry_length k v =
    omega (arith, length-append (k ++ 0x3D ∷ padded v) (0x0A ∷ []), length-append k (0x3D ∷ padded v))

module _ (d : Bytes) (at : ℕ) (k v d' : Bytes) (h : at + length (with_lf (entry_line (pair_with k v))) ≤ length d)
    (e : d' ≡ cond (leb (at + length k) (length d)) (put d at k) d) where
  -- the key and its =
  key_put : Puts d at k (at + length k) d'
  key_put = puts_copied d at k d' (omega (arith, entry_length k v)) e

  pub key_kept : length d' ≡ length d
  key_kept = puts_length (omega (arith, entry_length k v)) key_put

  sign_put : Puts d at (k ++ 0x3D ∷ []) (at + length k + 1) (set d' (at + length k) 0x3D)
  sign_put = puts_snoc 0x3D (at + length k) refl (omega (arith, entry_length k v)) key_put

  -- and its value
  module _ (end : ℕ) (d'' : Bytes) (p : Puts (set d' (at + length k) 0x3D) (at + length k + 1) (padded v) end d'') where
    line_put : Puts d at (entry_line (pair_with k v)) end d''
    unfolding entry_line
    line_put =
        let q : Puts d at ((k ++ 0x3D ∷ []) ++ padded v) end d'' =
        puts_then (omega (arith, length-append k (0x3D ∷ []), entry_length k v)) sign_put p in
        rw (append_assoc k (0x3D ∷ []) (padded v)) at q

    line_length_lem : length (entry_line (pair_with k v)) + 1 ≡ length k + length (padded v) + 2
    line_length_lem = omega (arith, entry_length k v, length-append (entry_line (pair_with k v)) (0x0A ∷ []))

    pub line_kept : length d'' ≡ length d
    line_kept = puts_length (omega (arith, line_length_lem, entry_length k v)) line_put

    -- the index behind is inside
    pub line_inside : end < length d
    line_inside = omega (arith, line_put.behind, line_length_lem, entry_length k v)

    pub entry-put : Puts d at (with_lf (entry_line (pair_with k v))) (end + 1) (set d'' end 0x0A)
    entry-put = puts_snoc 0x0A end refl (omega (arith, line_length_lem, entry_length k v)) line_put
