-- `split`: each refusal in its order, and then the items.
use mathlib.Core.Path.{sym, ◌∙◌}
use native.Mathlib.Omega.{arith}
use Rattle.items.proofs.SplitCalls.{short_bytes, short_ends, too_long, forbidden_byte, split_apart}
use Rattle.items.proofs.splitter.split.Goals as goal

pub returns-then-bytes-lt-BYTES : goal.returns-then-bytes-lt-BYTES
returns-then-bytes-lt-BYTES c = short_bytes _ _ _ (omega arith)

pub returns-then-ends-lt-ENDS : goal.returns-then-ends-lt-ENDS
returns-then-ends-lt-ENDS c = short_ends _ _ _ (omega arith) (omega arith)

pub returns-then-text-gt-LONGEST : goal.returns-then-text-gt-LONGEST
returns-then-text-gt-LONGEST c = too_long _ _ _ (omega arith) (omega arith) (omega arith)

pub returns-in-Some : goal.returns-in-Some
returns-in-Some c = forbidden_byte _ _ _ (omega arith) (omega arith) (omega arith) _ (sym c.in-Some.ensures)

pub returns : goal.returns
returns c = split_apart c.args.text.now c.args.bytes.now c.args.ends.now (omega arith) (omega arith) (omega arith) (sym c.first_forbidden.ensures ∙ c.in_default.is) c.split_apart.result _ _ c.split_apart.ensures
