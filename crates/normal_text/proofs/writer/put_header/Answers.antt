-- `put_header` puts three bytes and the name.
use Rattle.normal_text.proofs.LinePuts.{header_put}
use Rattle.normal_text.proofs.writer.put_header.Goals as goal

pub returns : goal.returns
returns c = header_put c.args.out.now c.args.at c.args.name.now _ c.requires c.copy_into.ensures.held
