-- Calls of `read`, as the statements about them take them.
use Rattle.std.specs.Prelude.{ℕ, ◌≤◌, List, length, Result}
use Rattle.lines.specs.Bytes.{Bytes}
use Rattle.table.specs.Answers.{Reads}
use Rattle.table.specs.declared.error.Error.{Error}
use Rattle.table.specs.declared.state.Counts.{Counts}

-- a call on this file, with buffers of the sizes that are asked for
pub record ReadCall (f : Bytes) (r : Result Counts Error) : Type 0 where
  pub text : Bytes
  pub sections : List ℕ
  pub entries : List ℕ
  pub new_text : Bytes
  pub new_sections : List ℕ
  pub new_entries : List ℕ
  pub text_size : 65535 ≤ length text
  pub sections_size : 128 ≤ length sections
  pub entries_size : 2560 ≤ length entries
  pub promise : Reads f text sections entries r new_text new_sections new_entries
