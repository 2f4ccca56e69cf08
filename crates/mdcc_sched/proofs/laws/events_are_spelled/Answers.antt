use Rattle.mdcc_sched.proofs.Spelled.{line_spelled}
use Rattle.mdcc_sched.proofs.laws.events_are_spelled.Goals as goal

pub returns : goal.returns
returns c = line_spelled
