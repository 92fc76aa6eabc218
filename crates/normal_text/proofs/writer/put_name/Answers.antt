-- `put_name` puts the line of the part that the record says.
use native.Mathlib.Omega.{arith}
use Prim.Native.Nat.{◌+◌}
use lib.ListN.{get_or}
use Rattle.normal_text.specs.Steps.{name_at}
use Rattle.normal_text.proofs.LinePuts.{header_length}
use Rattle.normal_text.proofs.Records.{part_cut}
use Rattle.normal_text.proofs.writer.put_name.Goals as goal

pub put_header-requires : goal.put_header-requires
put_header-requires c = let a = c.args in
    rw (part_cut a.table.text.now (get_or a.table.sections.now a.from 0) (get_or a.table.sections.now (a.from + 1) 0)) (omega (arith, c.requires.2, header_length (name_at a.table.text.now a.table.sections.now a.from)))
