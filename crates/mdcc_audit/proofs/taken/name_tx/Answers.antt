use Rattle.std.proofs.Common.{◌∙◌}
use Rattle.mdcc_audit.proofs.Named.{inserted-named}
use Rattle.mdcc_audit.proofs.taken.name_tx.Goals as goal

pub returns : goal.returns
returns c = c.in_ok-insert.ensures.keys ∙ inserted-named c.args.named.now.keys c.args.tx
