use Rattle.mdcc_node.proofs.Ending.{asked-planned}
use Rattle.mdcc_node.proofs.node.Node.asked.Goals as goal

pub returns-clause-plan : goal.returns-clause-plan
returns-clause-plan g c = λ facts volatile store.
    rw c.requires (asked-planned c.args.self.now.centre facts volatile c.args.from c.args.tx c.args.key.now c.args.version c.answer_asked.result c.answer_asked.new.sends
    (rw c.requires at (c.answer_asked.ensures facts volatile store)))
