use Rattle.std.proofs.Common.{◌∙◌, sym}
use Rattle.mdcc_world_decisions.proofs.Walks.{among-next}
use Rattle.mdcc_world_decisions.proofs.casts.keep_casts.Goals as goal

pub loop-i-preserved : goal.loop-i-preserved
loop-i-preserved c tx =
    rw (c.in_ok-keep_cast.ensures tx, c.copy.ensures)
    (sym (among-next _ c.args.centre c.args.key.now c.args.version c.args.ballot.now c.args.options.now c.loop-i.i _ tx c.at-tx.ensures) ∙ c.loop-i.invariant tx)
