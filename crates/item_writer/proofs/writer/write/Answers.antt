-- `write`: the tests in their order, each refusal by `Verdict`, and then the text.
use mathlib.Core.Path.{sym, ◌∙◌}
use native.Mathlib.Omega.{arith}
use lib.Seq.{length-take-le}
use Rattle.items.proofs.Laws.{cut_is_laid_again}
use Rattle.item_writer.proofs.Verdict.{has_nul, short_buffer, too_many, unfit_ends, nul_byte, long_bytes, long_text, text_copied}
use Rattle.item_writer.proofs.writer.write.Goals as goal

pub returns-then-out-lt-LONGEST : goal.returns-then-out-lt-LONGEST
returns-then-out-lt-LONGEST c = short_buffer _ _ _ (omega arith)

pub returns-then-ends-gt-MOST_ITEMS : goal.returns-then-ends-gt-MOST_ITEMS
returns-then-ends-gt-MOST_ITEMS c = too_many _ _ _ (omega arith) (omega arith)

pub returns-then-not-ends_fit : goal.returns-then-not-ends_fit
returns-then-not-ends_fit c = unfit_ends _ _ _ (omega arith) (omega arith) (sym c.ends_fit.ensures ∙ c.if-not-ends_fit.true)

pub slice_bounds-contains-end : goal.slice_bounds-contains-end
slice_bounds-contains-end c =
    let a = c.args in
    let l = cut_is_laid_again a.bytes.now a.ends.now (sym c.ends_fit.ensures ∙ c.if-not-ends_fit.false) in
    sym (length-take-le c.last_end-used.result a.bytes.now (omega (arith, c.last_end-used.ensures, l.inside)))

pub returns-then-contains : goal.returns-then-contains
returns-then-contains c =
    nul_byte _ _ _ (omega arith) (omega arith) (sym c.ends_fit.ensures ∙ c.if-not-ends_fit.false) (sym (has_nul c.args.bytes.now c.args.ends.now _ _ c.last_end-used.ensures c.contains.ensures.value) ∙ c.if-contains.true)

pub returns-then-used-gt-LONGEST : goal.returns-then-used-gt-LONGEST
returns-then-used-gt-LONGEST c =
    long_bytes _ _ _ (omega arith) (omega arith) (sym c.ends_fit.ensures ∙ c.if-not-ends_fit.false) (sym (has_nul c.args.bytes.now c.args.ends.now _ _ c.last_end-used.ensures c.contains.ensures.value) ∙ c.if-contains.false) (omega (arith, c.last_end-used.ensures))

pub returns-then-length-gt-LONGEST : goal.returns-then-length-gt-LONGEST
returns-then-length-gt-LONGEST c =
    long_text _ _ _ (omega arith) (omega arith) (sym c.ends_fit.ensures ∙ c.if-not-ends_fit.false) (sym (has_nul c.args.bytes.now c.args.ends.now _ _ c.last_end-used.ensures c.contains.ensures.value) ∙ c.if-contains.false) (omega (arith, c.put_list-length.ensures.behind))

pub returns : goal.returns
returns c =
    text_copied _ _ _ (omega arith) (omega arith) (sym c.ends_fit.ensures ∙ c.if-not-ends_fit.false) (sym (has_nul c.args.bytes.now c.args.ends.now _ _ c.last_end-used.ensures c.contains.ensures.value) ∙ c.if-contains.false)
    _ _ _ _ c.put_list-length.ensures (omega arith) c.copy_into.ensures.held
