-- The law is the lemma.
use Rattle.mdcc_theorem_trace_limits.proofs.Rounds.{rounds-low}
use Rattle.mdcc_theorem_trace_limits.proofs.rounds_stay_low.Goals as goal

pub returns : goal.returns
returns c = rounds-low
