-- The headline for histories.
use Rattle.std.proofs.Common.{List, arith, subst, sym, ℕ}
use Rattle.mdcc_config.specs.IsConfig.{IsConfig}
use Rattle.mdcc_config.specs.declared.config.Config.{Config}
use Rattle.mdcc_theorem_headline.proofs.Lines.{lines-told}
use Rattle.mdcc_theorem_headline.proofs.Reported.{all-whole}
use Rattle.mdcc_theorem_one_copy.proofs.CommitsRun.{commits_run}
use Rattle.mdcc_def_messages.specs.declared.facts.Fact.{Fact}
use Rattle.mdcc_def_protocol.specs.IsCluster.{IsCluster}
use Rattle.mdcc_def_server_runs.specs.Acts.{Act}
use Rattle.mdcc_theorem_clusters.specs.Clusters.{Deployment, after_moves, not_started}
use Rattle.mdcc_theorem_clusters.specs.Headline.{IsToldTruly, LedgerLaws}
use Rattle.mdcc_theorem_clusters.proofs.Discharged.{deployed}
use Rattle.mdcc_theorem_clusters.proofs.Headline.{tells}
use Rattle.mdcc_theorem_server_lives.specs.Histories.{Present, after_life_steps, at_first, but_all_answers}
use Rattle.mdcc_theorem_server_lives.specs.Told.{HeadlineOfHistories}
use Rattle.mdcc_theorem_server_lives.proofs.Answers.{asked-back, true-back}
use Rattle.mdcc_theorem_server_lives.proofs.Living.{histories-executed}

ledger-laws : LedgerLaws
ledger-laws = record {
  run = commits_run;
  whole = λ cluster ledger h choices listed. all-whole cluster ledger h choices listed;
  told = λ cluster ledger h lines o. lines-told cluster ledger h lines o;
}

-- it is so whatever the link answered
told-back : (config : Config) → IsConfig config → (done : List (ℕ × Act)) (durable : List (ℕ × Fact)) → IsToldTruly config (but_all_answers done) durable → IsToldTruly config done durable
told-back config is done durable h =
    let cluster : IsCluster config.cluster = record { quorums = is.quorums; schema = is.schema; range = is.gamma; some_cells = is.some_cells; cells = is.cells } in
    let true_of = true-back config done durable h.ledger h.true_of in
    record {
      ledger = h.ledger;
      true_of = true_of;
      asked_for = asked-back config done h.ledger h.asked_for;
      headline = λ short.
          tells ledger-laws config h.ledger (record { of_cluster = cluster; allowed = true_of.sound.legal; few = omega (arith, short.steps, true_of.begun) }) done durable true_of;
    }

pub histories-told : HeadlineOfHistories
histories-told config is steps h =
    let x = histories-executed config is steps h in
    let present : Present = after_life_steps at_first steps in
    let state : Deployment = after_moves config not_started x.moves in
    record {
      durable = state.durable;
      logs = x.logs;
      told = told-back config is present.done state.durable (subst (λ (done : List (ℕ × Act)). IsToldTruly config done state.durable) (sym x.done) (deployed config is x.moves x.executed));
    }
