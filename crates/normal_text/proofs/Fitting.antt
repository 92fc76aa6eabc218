-- What a line brings is written out in no more bytes than the line has. A value that ends in an odd run of backslashes had a
-- blank behind it, in place of which its space fits.
use mathlib.Core.Path.{◌≡◌, refl, ap, ◌∙◌}
use Prim.Native.Nat.{◌+◌, ◌≤◌}
use native.Mathlib.Omega.{arith}
use mathlib.Core.List.{◌∷◌, ◌++◌, append_assoc}
use lib.ListN.{length, length-append}
use Rattle.lines.specs.Bytes.{Bytes}
use Rattle.lines.specs.Trim.{trimmed}
use Rattle.lines.specs.Lines.{continued}
use Rattle.lines.specs.Laws.{Legal, Settled}
use Rattle.lines.proofs.Bools.{by_cases}
use Rattle.lines.proofs.Trimming.{length_trim}
use Rattle.lines.proofs.Runs.{continued-after}
use Rattle.lines.proofs.Legal.{legal_after}
use Rattle.table.specs.Laws.{EntryParts}
use Rattle.table.proofs.KindLaws.{HeaderParts}
use Rattle.normal_text.specs.Sections.{Pair}
use Rattle.normal_text.specs.NormalText.{header_line, padded, entry_line}
use Rattle.normal_text.proofs.Trimmed.{legal_behind, continued-behind, legal_trimmed, trimmed_shorter}

pub header_shorter : (l x : Bytes) → HeaderParts (trimmed l) x → length (header_line x) ≤ length l
unfolding header_line
header_shorter l x h = omega (arith, ap length h.0, length_trim l)

module _ (l : Bytes) (s : Settled l) (p : Pair) (h : EntryParts (trimmed l) p.key p.value) where
  -- cut at its =
  cut : trimmed l ≡ (p.key ++ h.front) ++ 0x3D ∷ (h.back ++ p.value)
  cut = h.line ∙ append_assoc (p.key ++ h.front) (0x3D ∷ h.back) p.value

  pub value_legal : Legal p.value
  value_legal =
      legal_behind h.back p.value h.back_blank
      (legal_after (p.key ++ h.front) 0x3D (h.back ++ p.value) refl refl (rw cut at (legal_trimmed l s.legal)))

  -- the value's closing run is the line's
  same_run : continued (trimmed l) ≡ continued p.value
  same_run =
      ap continued cut ∙ continued-after (p.key ++ h.front) 0x3D (h.back ++ p.value) refl
      ∙ continued-behind h.back p.value h.back_blank

  cut_length : length (trimmed l) ≡ length p.key + length h.front + (length h.back + length p.value + 1)
  cut_length =
      omega (
        arith,
        ap length cut,
        length-append (p.key ++ h.front) (0x3D ∷ (h.back ++ p.value)),
        length-append p.key h.front,
        length-append h.back p.value,
      )

  pub entry_shorter : length (entry_line p) ≤ length l
  unfolding entry_line padded
  entry_shorter =
      by_cases (continued p.value)
      (λ e. rw e (simp length-append (omega (arith, cut_length, trimmed_shorter l s.ends (same_run ∙ e)))))
      (λ e. rw e (simp length-append (omega (arith, cut_length, length_trim l))))
