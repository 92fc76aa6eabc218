-- `read`: each refusal in its order, and then the lines.
use Rattle.std.proofs.Common.{arith}
use Rattle.std.proofs.lemmas.Result.{err_from_is_err_and}
use Rattle.table.proofs.ReadCalls.{short_buffers, checked_short, file_refused, file_read}
use Rattle.table.proofs.reader.read.Goals as goal

pub returns-then-text-lt-TEXT_BYTES : goal.returns-then-text-lt-TEXT_BYTES
returns-then-text-lt-TEXT_BYTES c = short_buffers _ c.args.text.now c.args.sections.now c.args.entries.now c.then-text-lt-TEXT_BYTES.either

pub returns-in_err-check_file : goal.returns-in_err-check_file
returns-in_err-check_file c = let a = c.args in
    let p = err_from_is_err_and c.from_residual.result c.from_residual.ensures.1 in
    rw (p.1, p.2) (file_refused a.file.now a.text.now a.sections.now a.entries.now (omega arith) (omega arith) (omega arith) _ c.in_err-check_file.ensures)

pub read_apart-requires : goal.read_apart-requires
read_apart-requires c = (checked_short _ c.in_ok-check_file.ensures, omega arith, omega arith, omega arith)

pub returns : goal.returns
returns c = let a = c.args in
    file_read a.file.now a.text.now a.sections.now a.entries.now (omega arith) (omega arith) (omega arith)
    c.in_ok-check_file.ensures c.read_apart.result c.read_apart.new.text c.read_apart.new.sections c.read_apart.new.entries c.read_apart.ensures
