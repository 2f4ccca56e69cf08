use Rattle.std.proofs.Common.{◌≡◌, Ok, ap, sym, ◌∙◌}
use Rattle.mdcc_option.specs.Transaction.{transaction_of}
use Rattle.mdcc_option.specs.declared.cluster.Cluster.{Cluster}
use Rattle.mdcc_world.proofs.world.World.begin_parts.Goals as goal

pub returns-in-Ok-clause-happens : goal.returns-in-Ok-clause-happens
returns-in-Ok-clause-happens c w like =
    let same : transaction_of w.cluster.schema c.args.parts.now ≡ Ok c.in-Ok.transaction =
    ap (λ (cluster : Cluster). transaction_of cluster.schema c.args.parts.now) (sym like.records.cluster) ∙ sym c.in-Ok.ensures.exact in
    rw same (c.begin_transaction.ensures.happens w like)

pub begin_transaction-requires-clause-formed : goal.begin_transaction-requires-clause-formed
begin_transaction-requires-clause-formed c = c.requires.formed c.in-Ok.transaction (sym c.in-Ok.ensures.exact)
