-- Quoted texts in definitions, so that words and cases read as the rules write them.
use Prim.Native.Char.{code}
use Prim.Native.String.{String, [] as none, ◌∷◌ as ◌then◌}
use Rattle.std.specs.Prelude.{[], ◌∷◌}
use Rattle.lines.specs.Bytes.{Bytes}

-- the bytes of a quoted text of ASCII
abbrev pub bytes : String → Bytes
bytes none = []
bytes (◌then◌ c s) = code c ∷ bytes s
