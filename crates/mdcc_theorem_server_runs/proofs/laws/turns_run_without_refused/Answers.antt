use Rattle.mdcc_theorem_server_runs.proofs.Refused.{turns_run_without}
use Rattle.mdcc_theorem_server_runs.proofs.laws.turns_run_without_refused.Goals as goal

pub returns : goal.returns
returns c = turns_run_without
