-- `read_line`: the next line goes into the table or is refused; or no line is left.
use Rattle.std.specs.Prelude.{Err}
use Rattle.std.proofs.Common.{◌≡◌, rules}
use Rattle.std.proofs.lemmas.Result.{err_from_is_err_and}
use Rattle.lines.proofs.Laws.{found_tells, end_tells, refused_tells}
use Rattle.table.proofs.ReadingLines.{part-fits, line_goes, line_stops, long_line}
use Rattle.table.proofs.builder.Builder.read_line.Goals as goal

pub returns-in_err-found : goal.returns-in_err-found
returns-in_err-found c = let a = c.args in
    let p = err_from_is_err_and c.from_residual.result c.from_residual.ensures.1 in
    rw (p.1, p.2)
    (long_line a.file.now a.cursor a.line.now c.next_line.new.buffer _
    (refused_tells a.file.now a.cursor a.line.now c.next_line.new.buffer _ c.requires.0 c.in_err-found.ensures) a.self.now a.self.now)

pub returns-in_default : goal.returns-in_default
returns-in_default c = let a = c.args in
    λ t d e g h. ((end_tells a.file.now a.cursor a.line.now c.next_line.new.buffer (rw c.in_default.is at c.in_ok-found.ensures)).0, h)

pub add_line-requires : goal.add_line-requires
add_line-requires c = let a = c.args in
    let w = c.in-Some.found in
    let l = found_tells a.file.now a.cursor a.line.now c.next_line.new.buffer w.length w.first w.next (rw c.in-Some.is at c.in_ok-found.ensures) in
    part-fits a.file.now a.cursor a.line.now c.next_line.new.buffer w.length w.first w.next l _ _ c.requires.1 c.requires.2

pub returns-in_err-add_line : goal.returns-in_err-add_line
returns-in_err-add_line c = let a = c.args in
    let w = c.in-Some.found in
    let l = found_tells a.file.now a.cursor a.line.now c.next_line.new.buffer w.length w.first w.next (rw c.in-Some.is at c.in_ok-found.ensures) in
    let q : c.from_residual-in_err-add_line.result ≡ Err c.in_err-add_line.field-0.0 = search rules in
    rw q
    (line_stops a.file.now a.cursor a.line.now c.next_line.new.buffer w.length w.first w.next l
    a.self.now c.add_line.result c.add_line.new.self c.add_line.ensures c.in_err-add_line.field-0.0 c.in_err-add_line.was)

pub returns : goal.returns
returns c = let a = c.args in
    let w = c.in-Some.found in
    let l = found_tells a.file.now a.cursor a.line.now c.next_line.new.buffer w.length w.first w.next (rw c.in-Some.is at c.in_ok-found.ensures) in
    line_goes a.file.now a.cursor a.line.now c.next_line.new.buffer w.length w.first w.next l
    a.self.now c.add_line.result c.add_line.new.self c.add_line.ensures c.in_ok-add_line.was
