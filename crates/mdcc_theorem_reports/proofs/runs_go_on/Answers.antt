-- The laws are the lemmas.
use Rattle.mdcc_theorem_reports.proofs.Origins.{runs-tell}
use Rattle.mdcc_theorem_reports.proofs.Prefixes.{first-taken, runs-go_on}
use Rattle.mdcc_theorem_reports.proofs.runs_go_on.Goals as goal

pub returns-clause-grows : goal.returns-clause-grows
returns-clause-grows c = λ w events. (runs-tell w events).0

pub returns-clause-goes_on : goal.returns-clause-goes_on
returns-clause-goes_on c = runs-go_on

pub returns-clause-first : goal.returns-clause-first
returns-clause-first c = first-taken
