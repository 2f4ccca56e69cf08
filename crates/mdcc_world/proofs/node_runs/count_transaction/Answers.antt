use Rattle.std.proofs.Common.{Option, ◌++◌, subst}
use Rattle.mdcc_base.specs.declared.identifiers.TxId.{TxId}
use Rattle.mdcc_world_decisions.specs.Represents.{RepresentsLedger}
use Rattle.mdcc_world.specs.Report.{begun_entries}
use Rattle.mdcc_world.proofs.node_runs.count_transaction.Goals as goal

pub returns-in_ok-begin : goal.returns-in_ok-begin
returns-in_ok-begin c quorums entries a stands =
    let counted = c.in_ok-begin.ensures quorums entries a stands in
    subst (λ (o : Option TxId). RepresentsLedger c.begin.new.self quorums (begun_entries a c.args.transaction.now o ++ entries)) c.in-Some.ensures
    (rw (← c.choices.ensures, ← c.as_slice.ensures.value) counted)
