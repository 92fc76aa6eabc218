-- A loop that puts the bytes of an item into a text as they stand in quotes: what holds after i of them.
use mathlib.Core.Path.{◌≡◌, refl, ◌∙◌}
use mathlib.Core.List.{[], ◌∷◌, ◌++◌}
use Prim.Native.Nat.{ℕ, ◌+◌, ◌*◌, ◌≤◌, ◌<◌}
use native.Mathlib.Numerals.{add-one}
use native.Mathlib.Omega.{arith}
use lib.ListN.{length, take, get_or}
use lib.Seq.{take-suc}
use Rattle.lines.specs.Bytes.{Bytes}
use Rattle.items.specs.Write.{written_byte, in_quotes}
use Rattle.lines.specs.Buffers.{Puts}
use Rattle.lines.proofs.Putting.{puts_nothing, puts_then}
use Rattle.item_writer.proofs.Forms.{byte_length}
use Rattle.item_writer.proofs.Written.{in_quotes_snoc}

pub record Quoted (item text₀ : Bytes) (at : ℕ) (text : Bytes) (end i : ℕ) : Type 0 where
  pub inside : i ≤ length item
  pub puts : Puts text₀ at (in_quotes (take i item)) end text
  pub same : length text ≡ length text₀
  pub room : end ≤ at + 4 * i

module _ (item text₀ : Bytes) (at : ℕ) where
  pub quoted_start : Quoted item text₀ at text₀ at 0
  unfolding in_quotes
  quoted_start = record { inside = omega arith; puts = puts_nothing text₀ at; same = refl; room = omega arith }

  module _ (text : Bytes) (end i : ℕ) (q : Quoted item text₀ at text end i) where
    pub quoted_more : i < length item → at + 4 * length item ≤ length text₀ → (r : ℕ) (text' : Bytes)
        → Puts text end (written_byte (get_or item i 0)) r text' → length text' ≡ length text → Quoted item text₀ at text' r (i + 1)
    quoted_more h k r text' p s =
        let b : ℕ = get_or item i 0 in
        let e : in_quotes (take (i + 1) item) ≡ in_quotes (take i item ++ b ∷ []) = rw (add-one, take-suc item i 0 h) in
        record {
          inside = omega arith;
          puts = rw (e ∙ in_quotes_snoc (take i item) b) (puts_then (omega (arith, q.puts.behind)) q.puts p);
          same = s ∙ q.same;
          room = omega (arith, p.behind, byte_length b);
        }
