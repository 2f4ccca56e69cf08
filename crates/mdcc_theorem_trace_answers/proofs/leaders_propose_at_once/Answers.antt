-- The laws are the lemmas.
use Rattle.mdcc_theorem_trace_answers.proofs.Proposing.{enough-parts, enough-safe, proposed, waited}
use Rattle.mdcc_theorem_trace_answers.proofs.leaders_propose_at_once.Goals as goal

pub returns-clause-proposes : goal.returns-clause-proposes
returns-clause-proposes c = proposed

pub returns-clause-waits : goal.returns-clause-waits
returns-clause-waits c = waited

pub returns-clause-latest : goal.returns-clause-latest
returns-clause-latest c = enough-parts

pub returns-clause-safe : goal.returns-clause-safe
returns-clause-safe c = enough-safe
