use Rattle.mdcc_def_protocol.specs.Volatile.{initial_volatile}
use Rattle.mdcc_def_rules.specs.AcceptorRules.{accept_step}
use Rattle.mdcc_node.proofs.Ending.{accept-adds, follows-planned}
use Rattle.mdcc_node.proofs.node.Node.accept.Goals as goal

pub returns-clause-fact : goal.returns-clause-fact
returns-clause-fact g c = λ facts store.
    let centre = c.args.self.now.centre in
    follows-planned facts c.accepted.result c.accepted.new.step (accept_step centre facts initial_volatile c.args.from c.args.key.now c.args.version c.args.ballot c.args.options.now)
    (rw (c.on_accept-acceptor.ensures facts store) at (c.accepted.ensures facts initial_volatile store))
    (accept-adds centre facts initial_volatile c.args.from c.args.key.now c.args.version c.args.ballot c.args.options.now).follows
