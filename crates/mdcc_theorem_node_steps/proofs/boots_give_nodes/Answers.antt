use Rattle.mdcc_theorem_node_steps.proofs.Booting.{boot-node, boot-reads, boot-room}
use Rattle.mdcc_theorem_node_steps.proofs.boots_give_nodes.Goals as goal

pub returns-clause-node : goal.returns-clause-node
returns-clause-node c = boot-node

pub returns-clause-room : goal.returns-clause-room
returns-clause-room c = boot-room

pub returns-clause-reads : goal.returns-clause-reads
returns-clause-reads c = boot-reads
