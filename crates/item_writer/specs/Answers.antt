-- What the answer of `write` means in the rules, and what a call leaves in the buffer.
use Rattle.std.specs.Prelude.{◌≡◌, ℕ, List, length, Result, Ok, Err}
use Rattle.lines.specs.Bytes.{Bytes}
use Rattle.lines.specs.Answers.{Outcome, accepted, refused}
use Rattle.lines.specs.Buffers.{filled}
use Rattle.items.specs.Answers.{error_means}
use Rattle.items.specs.Write.{write_in}
use Rattle.items.specs.declared.error.Error.{Error}

-- the length of the text, or the refusal
abbrev pub write_means : Result ℕ Error → Outcome ℕ
write_means (Ok n) = accepted n
write_means (Err e) = error_means e

-- the length of a text
abbrev pub measured : Outcome Bytes → Outcome ℕ
measured (accepted t) = accepted (length t)
measured (refused n p) = refused n p

-- the buffer afterwards: the text in front, and the rest as it was
abbrev pub text_after : Outcome Bytes → Bytes → Bytes
text_after (accepted t) d = filled t d
text_after (refused n p) d = d

-- the promise of `write`: the answer, and the whole buffer
pub record Writes (bytes : Bytes) (ends : List ℕ) (out : Bytes) (r : Result ℕ Error) (out' : Bytes) : Type 0 where
  pub answer : write_means r ≡ measured (write_in (length out) bytes ends)
  pub new_out : out' ≡ text_after (write_in (length out) bytes ends) out
