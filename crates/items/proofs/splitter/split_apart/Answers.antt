-- `split_apart`: items that were read are copied.
use Rattle.items.proofs.SplitCalls.{apart_copied}
use Rattle.items.proofs.splitter.split_apart.Goals as goal

pub returns : goal.returns
returns c =
    apart_copied _ _ c.read_items.new.bytes _ c.read_items.new.ends c.in_ok-counts.counts c.in_ok-counts.ensures c.args.bytes.now _ c.args.ends.now _
    c.requires.1 c.requires.2 c.copy_into.ensures.held c.copy_into-2.ensures.held
