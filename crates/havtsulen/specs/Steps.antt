-- What a reply leaves, as the laws of the calls take it.
use Rattle.std.specs.Prelude.{◌≡◌, ℕ, List}
use Rattle.lines.specs.Buffers.{filled}
use Rattle.havtsulen.specs.Reports.{four}

-- a reply: the number answered, and the report's four numbers
pub record Replies (number a b c d : ℕ) (report : List ℕ) (r : ℕ) (report' : List ℕ) : Type 0 where
  pub answer : r ≡ number
  pub new_report : report' ≡ filled (four a b c d) report
