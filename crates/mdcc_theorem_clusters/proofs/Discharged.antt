-- What the headline of clusters stands on is proved.
use Rattle.std.specs.Prelude.{List, ℕ}
use Rattle.mdcc_config.specs.IsConfig.{IsConfig}
use Rattle.mdcc_config.specs.declared.config.Config.{Config}
use Rattle.mdcc_theorem_worlds.proofs.Within.{made-quiet}
use Rattle.mdcc_theorem_clusters.proofs.Drafted.{drafted_formed}
use Rattle.mdcc_theorem_clusters.proofs.Headline.{headline}
use Rattle.mdcc_theorem_clusters.proofs.Standing.{IsLogged}
use Rattle.mdcc_theorem_clusters.proofs.Truth.{execution-logged, execution-true}
use Rattle.mdcc_theorem_clusters.specs.Clusters.{Move, after_moves, log_of, not_started}
use Rattle.mdcc_theorem_clusters.specs.Discharged.{HeadlineOfClusters}
use Rattle.mdcc_theorem_clusters.specs.Executions.{IsExecution, Laws}
use Rattle.mdcc_theorem_clusters.specs.Formed.{StepLaws}
use Rattle.mdcc_theorem_clusters.specs.Headline.{LedgerLaws}
use Rattle.mdcc_theorem_headline.proofs.Lines.{lines-told}
use Rattle.mdcc_theorem_headline.proofs.Reported.{all-whole}
use Rattle.mdcc_theorem_one_copy.proofs.CommitsRun.{commits_run}
use Rattle.mdcc_theorem_node_steps.proofs.Answered.{answer-formed}
use Rattle.mdcc_theorem_node_steps.proofs.Dispatched.{node-stays, sends-formed}
use Rattle.mdcc_theorem_trace.proofs.Laws.{all-good}

step-laws : StepLaws
step-laws = record {
  sends = λ cluster me facts volatile input step room node w made. sends-formed cluster me facts volatile input step node w made room;
  answers = λ cluster me facts volatile input step answer node w made is. answer-formed cluster me facts volatile input step answer node w made is;
  stays = λ cluster me facts volatile input step node w made. node-stays cluster me facts volatile input step node w made;
}

laws : Laws
laws = record { good = all-good; steps = step-laws; others = made-quiet; drafts = drafted_formed }

ledger-laws : LedgerLaws
ledger-laws = record {
  run = commits_run;
  whole = λ cluster ledger h choices listed. all-whole cluster ledger h choices listed;
  told = λ cluster ledger h lines o. lines-told cluster ledger h lines o;
}

pub deployed : HeadlineOfClusters
deployed config is moves h = headline (λ l k i ms x. execution-true l k i ms x) laws ledger-laws config is moves h

pub deployed-logged : (config : Config) → IsConfig config → (moves : List Move) → IsExecution config not_started moves → (a : ℕ) → IsLogged config.cluster (log_of (after_moves config not_started moves).durable a)
deployed-logged config is moves h a = execution-logged laws config is moves h a
