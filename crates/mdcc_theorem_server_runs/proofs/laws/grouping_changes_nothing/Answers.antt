use Rattle.mdcc_theorem_server_runs.proofs.Grouped.{grouping_alike}
use Rattle.mdcc_theorem_server_runs.proofs.laws.grouping_changes_nothing.Goals as goal

pub returns : goal.returns
returns c = grouping_alike
