use Rattle.mdcc_def_protocol.specs.Volatile.{initial_volatile}
use Rattle.mdcc_def_rules.specs.AcceptorRules.{propose_step}
use Rattle.mdcc_node.proofs.Ending.{follows-planned, propose-adds}
use Rattle.mdcc_node.proofs.node.Node.propose.Goals as goal
use Rattle.mdcc_def_rules.specs.Here.{here}

pub returns-clause-fact : goal.returns-clause-fact
returns-clause-fact g c = λ facts store.
    let self = c.args.self.now in
    follows-planned facts c.proposed.result c.proposed.new.step (propose_step (here self.cluster self.centre facts) initial_volatile c.args.from c.args.choice.now)
    (rw (c.answer_proposal.ensures facts store) at (c.proposed.ensures initial_volatile))
    (propose-adds self.centre facts initial_volatile c.args.from self.cluster c.args.choice.now).follows
