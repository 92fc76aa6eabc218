-- `add_entry_line`: no =, a bad key, or the key and the value.
use Rattle.std.proofs.Common.{sym, refl, ◌∙◌, arith}
use Rattle.table.specs.declared.error.Error.TheVariants.{NoEqualsSign, BadKey}
use Rattle.table.proofs.TakingLines.{as_kind, fault_refused, sign_missing, parts_fit, key_bad, key_good}
use Rattle.table.proofs.builder.Builder.add_entry_line.Goals as goal

pub returns-in_default : goal.returns-in_default
returns-in_default c = fault_refused _ 7 _ c.args.self.now c.args.self.now (NoEqualsSign c.args.number) (sign_missing c.args.line.now c.in_default.ensures) refl refl

pub returns-then-not-is_key : goal.returns-then-not-is_key
returns-then-not-is_key c =
    fault_refused _ 8 _ c.args.self.now c.args.self.now (BadKey c.args.number)
    (key_bad c.args.line.now c.in-Some.at c.in-Some.ensures.1 c.in-Some.ensures.0 _ _ c.trim_end-key.ensures c.trim_start-value.ensures (sym c.is_key.ensures ∙ c.if-not-is_key.true))
    refl refl

pub add_entry-requires : goal.add_entry-requires
add_entry-requires c =
    let h = parts_fit c.args.line.now c.in-Some.at c.in-Some.ensures.1 c.in-Some.ensures.0 _ _ c.trim_end-key.ensures c.trim_start-value.ensures in
    omega (arith, h)

pub returns : goal.returns
returns c =
    as_kind _ _ _ c.args.self.now c.add_entry.result c.add_entry.new.self
    (key_good c.args.line.now c.in-Some.at c.in-Some.ensures.1 c.in-Some.ensures.0 _ _ c.trim_end-key.ensures c.trim_start-value.ensures (sym c.is_key.ensures ∙ c.if-not-is_key.false))
    c.add_entry.ensures
