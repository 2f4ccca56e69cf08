use Rattle.mdcc_theorem_node_steps.proofs.Cells.{few-celled, few-logged}
use Rattle.mdcc_theorem_node_steps.proofs.facts_have_room.Goals as goal

pub returns-clause-cells : goal.returns-clause-cells
returns-clause-cells c = few-celled

pub returns-clause-logs : goal.returns-clause-logs
returns-clause-logs c = few-logged
