use Rattle.std.proofs.Common.{◌≡◌, refl}
use Rattle.mdcc_leader.proofs.Written.{represents-begun}
use Rattle.mdcc_leader.proofs.leader.Leader.begin.Goals as goal

pub returns-clause-ok : goal.returns-clause-ok
returns-clause-ok g c me epoch facts leading holds stands =
    represents-begun c.args.self.now _ me epoch c.args.cluster.now facts leading c.args.claim.now c.in_ok-lead.lead refl refl
    (λ k. c.in_ok-keep.ensures.ok k) c.requires stands (c.in_ok-lead.ensures facts holds)
