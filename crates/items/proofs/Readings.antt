-- The readings of the rules: the definitions compute to what the cases say.
use mathlib.Core.Path.{refl}
use Rattle.items.specs.Readings.{ReadingsHold}
use Rattle.items.specs.Split.{split_of}
use Rattle.items.specs.Write.{write_in}

pub readings_hold : ReadingsHold
unfolding split_of write_in
readings_hold = (
  (refl, (refl, (refl, (refl, (refl, (refl, (refl, (refl, (refl, (refl, (refl, (refl, (refl, (refl, tt)))))))))))))),
  (refl, (refl, (refl, (refl, (refl, (refl, (refl, tt))))))),
)
