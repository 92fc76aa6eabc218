-- What the answer of `read_input` says of the buffer.
use Rattle.std.specs.Prelude.{ℕ, ◌≤◌}
use Rattle.input.specs.declared.Input.{Input}
use Rattle.input.specs.declared.Input.TheVariants.{Whole, Longer}

-- an input that is there whole is inside a buffer of so many bytes
abbrev pub Inside : ℕ → Input → Type 0
Inside length (Whole n) = n ≤ length
Inside length Longer = Unit {0}
