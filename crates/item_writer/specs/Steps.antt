-- What the functions inside the crate promise, beside what they put (`Puts` in lines).
use Rattle.std.specs.Prelude.{ℕ, zero, suc, ◌∷◌}
use Rattle.lines.specs.Bytes.{Bytes}
use Rattle.items.specs.Write.{written_item}

-- an item behind some number of others: a space parts it from them
unfoldable pub following : ℕ → Bytes → Bytes
following zero x = written_item x
following (suc n) x = 0x20 ∷ written_item x
