-- A line with no LF, no comment start and no odd closing run is read back as itself.
use mathlib.Core.Path.{◌≡◌, refl, sym, ap, ◌∙◌}
use Prim.Native.Nat.{ℕ, suc, ◌+◌}
use mathlib.Core.List.{List, [], ◌∷◌, ◌++◌, append_assoc}
use lib.ListN.{length}
use Rattle.lines.specs.Laws.{All, Whole, bytes_of}
use Rattle.lines.specs.Bytes.{Bytes}
use Rattle.lines.specs.Lines.{physical, joined, logical, written}
use Rattle.lines.proofs.Physicals.{shut_line, physical_cons}
use Rattle.lines.proofs.Joining.{joined_nil, joined_line}

-- lines behind lines
pub written_append : (a b : List Bytes) → written (a ++ b) ≡ written a ++ written b
unfolding written
written_append [] b = refl
written_append (l ∷ a) b = rw (written_append a b) (sym (append_assoc l (0x0A ∷ written a) (written b)))

-- in front of any file
pub whole_cons : (l rest : Bytes) (n a : ℕ) → Whole l
    → joined (physical n a (l ++ 0x0A ∷ rest)) ≡ shut_line n a l ∷ joined (physical (suc n) (suc (a + length l)) rest)
whole_cons l rest n a w =
    ap joined (physical_cons l rest n a w.one)
    ∙ joined_line (shut_line n a l) (physical (suc n) (suc (a + length l)) rest) w.kept w.ends

-- ---- a text of such lines

pub whole_lines : (ls : List Bytes) (n a : ℕ) → All Whole ls → bytes_of (joined (physical n a (written ls))) ≡ ls
unfolding written physical
whole_lines [] n a h = ap bytes_of joined_nil
whole_lines (l ∷ ls) n a h =
    ap bytes_of (whole_cons l (written ls) n a h.0)
    ∙ ap (λ (r : List Bytes). l ∷ r) (whole_lines ls (suc n) (suc (a + length l)) h.1)

pub logical-written : (ls : List Bytes) → All Whole ls → bytes_of (logical (written ls)) ≡ ls
unfolding logical
logical-written ls h = whole_lines ls 1 0 h
