-- By the clauses of the run.
use Rattle.mdcc_theorem_program_runs.proofs.Runs.{cluster-run, node-run}
use Rattle.mdcc_theorem_program_runs.proofs.run_as_call.Goals as goal

pub returns-clause-node : goal.returns-clause-node
returns-clause-node g c = λ centre turns input config words left read there.
    let does = c.run.ensures.node centre turns words in
    node-run g.D.Disks.disk g.D.Disks.may_leave g.D.Disks.tears g.L.Link.calls g.L.Link.lost g.O.Sink.held _ input config read does.served centre there _ left does.runs

pub returns-clause-cluster : goal.returns-clause-cluster
returns-clause-cluster g c = λ turns input config words left read.
    let does = c.run.ensures.cluster turns words in
    cluster-run g.D.Disks.disk g.D.Disks.may_leave g.D.Disks.tears g.L.Link.calls g.L.Link.lost g.O.Sink.held _ input config read does.served _ left does.runs
