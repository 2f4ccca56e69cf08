use Rattle.std.proofs.Common.{◌∙◌, sym}
use Rattle.mdcc_audit.proofs.Walks.{named-next}
use Rattle.mdcc_audit.proofs.taken.name_txs.Goals as goal

pub loop-i-preserved : goal.loop-i-preserved
loop-i-preserved c =
    rw c.in_ok-name_tx.ensures (sym (named-next c.loop-i.named.keys c.args.options.now c.loop-i.i _ c.at-tx.ensures) ∙ c.loop-i.invariant)
