use Rattle.mdcc_theorem_server_runs.proofs.Grouped.{turns_are_runs}
use Rattle.mdcc_theorem_server_runs.proofs.laws.turns_run_by_inputs.Goals as goal

pub returns : goal.returns
returns c = turns_are_runs
