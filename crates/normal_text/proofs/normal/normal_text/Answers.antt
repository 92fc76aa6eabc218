-- `normal_text`: the output buffer, the read call, and then its table's normal text.
use native.Mathlib.Omega.{arith}
use Rattle.normal_text.proofs.NormalCalls.{no_space, asked, written_out, read_refused, handed_on}
use Rattle.normal_text.proofs.normal.normal_text.Goals as goal

pub returns-then-out-lt-OUT_BYTES : goal.returns-then-out-lt-OUT_BYTES
returns-then-out-lt-OUT_BYTES c = let a = c.args in
    no_space a.file.now a.text.now a.sections.now a.entries.now a.out.now (omega arith)

pub returns-in_err-counts : goal.returns-in_err-counts
returns-in_err-counts c = let a = c.args in
    rw (handed_on _ _ c.from_residual.ensures.1)
    (read_refused a.file.now a.text.now a.sections.now a.entries.now c.read.result _ _ _ c.read.ensures _ c.in_err-counts.was a.out.now (omega arith))

pub of-requires-clause-sound : goal.of-requires-clause-sound
of-requires-clause-sound c = let a = c.args in
    (asked a.file.now a.text.now a.sections.now a.entries.now c.read.result _ _ _ c.read.ensures _ c.in_ok-counts.was a.out.now (omega arith)).0

pub of-requires-clause-few_sections : goal.of-requires-clause-few_sections
of-requires-clause-few_sections c = let a = c.args in
    (asked a.file.now a.text.now a.sections.now a.entries.now c.read.result _ _ _ c.read.ensures _ c.in_ok-counts.was a.out.now (omega arith)).1

pub of-requires-clause-few_entries : goal.of-requires-clause-few_entries
of-requires-clause-few_entries c = let a = c.args in
    (asked a.file.now a.text.now a.sections.now a.entries.now c.read.result _ _ _ c.read.ensures _ c.in_ok-counts.was a.out.now (omega arith)).2

pub put_sections-length-requires-clause-sound : goal.put_sections-length-requires-clause-sound
put_sections-length-requires-clause-sound c = let a = c.args in
    (asked a.file.now a.text.now a.sections.now a.entries.now c.read.result _ _ _ c.read.ensures _ c.in_ok-counts.was a.out.now (omega arith)).0

pub put_sections-length-requires-clause-few_sections : goal.put_sections-length-requires-clause-few_sections
put_sections-length-requires-clause-few_sections c = let a = c.args in
    (asked a.file.now a.text.now a.sections.now a.entries.now c.read.result _ _ _ c.read.ensures _ c.in_ok-counts.was a.out.now (omega arith)).1

pub put_sections-length-requires-clause-few_entries : goal.put_sections-length-requires-clause-few_entries
put_sections-length-requires-clause-few_entries c = let a = c.args in
    (asked a.file.now a.text.now a.sections.now a.entries.now c.read.result _ _ _ c.read.ensures _ c.in_ok-counts.was a.out.now (omega arith)).2

pub put_sections-length-requires-clause-space : goal.put_sections-length-requires-clause-space
put_sections-length-requires-clause-space c = let a = c.args in
    (asked a.file.now a.text.now a.sections.now a.entries.now c.read.result _ _ _ c.read.ensures _ c.in_ok-counts.was a.out.now (omega arith)).3

pub returns : goal.returns
returns c = let a = c.args in
    written_out a.file.now a.text.now a.sections.now a.entries.now c.read.result _ _ _ c.read.ensures _ c.in_ok-counts.was a.out.now (omega arith) _ _ c.put_sections-length.ensures
