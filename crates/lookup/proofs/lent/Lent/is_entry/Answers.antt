-- `is_entry`: the entry's record is there.
use native.Mathlib.Omega.{arith}
use Rattle.lookup.specs.Decoding.{lent_of}
use Rattle.lookup.proofs.Searching.{inside_there}
use Rattle.lookup.proofs.lent.Lent.is_entry.Goals as goal

pub overflow_mul-index : goal.overflow_mul-index
overflow_mul-index c = omega (arith, (inside_there (lent_of c.args.self) c.requires.table c.args.index c.requires.index).there_is)

pub is_record-requires : goal.is_record-requires
is_record-requires c = inside_there (lent_of c.args.self) c.requires.table c.args.index c.requires.index
