-- The law is the lemma.
use Rattle.mdcc_def_server_runs.proofs.Refused.{run_without}
use Rattle.mdcc_def_server_runs.proofs.refused_inputs_change_nothing.Goals as goal

pub returns : goal.returns
returns c = run_without
