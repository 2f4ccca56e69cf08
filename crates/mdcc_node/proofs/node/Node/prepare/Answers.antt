use Rattle.mdcc_def_protocol.specs.Volatile.{initial_volatile}
use Rattle.mdcc_def_rules.specs.AcceptorRules.{prepare_step}
use Rattle.mdcc_node.proofs.Ending.{follows-planned, prepare-adds}
use Rattle.mdcc_node.proofs.node.Node.prepare.Goals as goal

pub returns-clause-fact : goal.returns-clause-fact
returns-clause-fact g c = λ facts store.
    let centre = c.args.self.now.centre in
    follows-planned facts c.prepared.result c.prepared.new.step (prepare_step centre facts initial_volatile c.args.from c.args.key.now c.args.version c.args.through c.args.ballot)
    (rw (c.on_prepare-acceptor.ensures facts store) at (c.prepared.ensures facts initial_volatile store))
    (prepare-adds centre facts initial_volatile c.args.from c.args.key.now c.args.version c.args.through c.args.ballot).follows
