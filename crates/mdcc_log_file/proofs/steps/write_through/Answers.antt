use Rattle.mdcc_log_file.proofs.Calls.{told_two}
use Rattle.mdcc_log_file.proofs.steps.write_through.Goals as goal

pub returns-clause-calls : goal.returns-clause-calls
returns-clause-calls g c = told_two _ _ _ _ _ _ c.in_ok-write_at.ensures.call.calls.ok c.sync.ensures.call.calls
