-- The law is the lemma.
use Rattle.mdcc_theorem_reports.proofs.Order as order
use Rattle.mdcc_theorem_reports.proofs.outcomes_in_order.Goals as goal

pub returns : goal.returns
returns c = order.outcomes-in-order
