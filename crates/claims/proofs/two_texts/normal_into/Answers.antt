-- `normal_into`: the call, with buffers of the sizes that are asked for.
use Rattle.claims.proofs.FileTexts.{into_holds}
use borrow.Author.Rules.{rules}
use Rattle.claims.proofs.two_texts.normal_into.Goals as goal

pub returns : goal.returns
returns c = let a = c.args in
    into_holds a.file.now _ _ _ a.out.now c.normal_text.result _ _ _ _ c.normal_text.ensures (search rules) (search rules) (search rules)
