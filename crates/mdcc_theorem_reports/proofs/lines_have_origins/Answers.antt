-- The laws are the lemmas.
use Rattle.mdcc_theorem_reports.proofs.Origins.{runs-tell}
use Rattle.mdcc_theorem_reports.proofs.Turns.{runs-turn}
use Rattle.mdcc_theorem_reports.proofs.lines_have_origins.Goals as goal

pub returns-clause-each : goal.returns-clause-each
returns-clause-each c = λ w events. (runs-tell w events).1

pub returns-clause-in_turn : goal.returns-clause-in_turn
returns-clause-in_turn c = λ w events. (runs-turn w events).1
