use Rattle.mdcc_node_log.proofs.Logged.{logged-length}
use Rattle.mdcc_node_log.proofs.laws.logs_are_as_long_as_counted.Goals as goal

pub returns : goal.returns
returns c facts = logged-length facts
