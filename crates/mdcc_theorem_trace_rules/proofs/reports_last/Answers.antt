-- The law is the lemma.
use Rattle.mdcc_theorem_trace_rules.proofs.Promises.{report-kept}
use Rattle.mdcc_theorem_trace_rules.proofs.reports_last.Goals as goal

pub returns : goal.returns
returns c = report-kept
