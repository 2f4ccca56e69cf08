-- The law is the lemma.
use Rattle.mdcc_theorem_trace_limits.proofs.Short.{ledger-short}
use Rattle.mdcc_theorem_trace_limits.proofs.ledgers_stay_short.Goals as goal

pub returns : goal.returns
returns c = ledger-short
