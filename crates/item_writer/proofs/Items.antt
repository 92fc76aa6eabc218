-- An item put into a text, from its parts: the quotes and what stands between them, or the space before it.
use mathlib.Core.Path.{◌≡◌}
use Prim.Native.Nat.{ℕ, ◌+◌, ◌*◌, ◌≤◌}
use native.Mathlib.Omega.{arith}
use mathlib.Core.Bool.{false}
use lib.ListN.{length, set}
use Rattle.lines.specs.Bytes.{Bytes}
use Rattle.items.specs.Write.{is_bare, in_quotes, written_item}
use Rattle.lines.specs.Buffers.{Puts}
use Rattle.item_writer.specs.Steps.{following}
use Rattle.lines.proofs.Putting.{puts_byte, puts_then}
use Rattle.item_writer.proofs.Written.{item_quoted, following-later, quoted_most}

module _ (x d : Bytes) (at end : ℕ) (d' : Bytes) where
  pub puts_quotes : is_bare x ≡ false → at + (4 * length x + 2) ≤ length d → Puts (set d at 0x22) (at + 1) (in_quotes x) end d'
      → length d' ≡ length d → Puts d at (written_item x) (end + 1) (set d' end 0x22)
  puts_quotes e h p same =
      let most = quoted_most x in
      let open-quote = puts_byte d at 0x22 (omega arith) in
      let close-quote = puts_byte d' end 0x22 (omega (arith, p.behind)) in
      rw (item_quoted x e) (puts_then (omega arith) (puts_then (omega arith) open-quote p) close-quote)

  pub puts_behind : (n : ℕ) → (n ≡ 0 → ⊥) → at + 1 ≤ length d → Puts (set d at 0x20) (at + 1) (written_item x) end d'
      → Puts d at (following n x) end d'
  puts_behind n e h p = rw (following-later n x e) (puts_then h (puts_byte d at 0x20 (omega arith)) p)
