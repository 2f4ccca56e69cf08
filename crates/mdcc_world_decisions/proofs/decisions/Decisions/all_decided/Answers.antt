use Rattle.std.proofs.Common.{◌∙◌, sym}
use Rattle.mdcc_world_decisions.specs.Decided.{with_decided_of}
use Rattle.mdcc_world_decisions.proofs.Walks.{txs-next}
use Rattle.mdcc_world_decisions.proofs.decisions.Decisions.all_decided.Goals as goal

pub loop-i-preserved : goal.loop-i-preserved
loop-i-preserved c quorums entries stands =
    rw (c.in_ok-push.ensures.ok, c.decided_of.ensures quorums entries stands)
    (sym (txs-next _ (with_decided_of quorums entries) c.args.options.now c.loop-i.i _ c.at-tx.ensures) ∙ c.loop-i.invariant quorums entries stands)
