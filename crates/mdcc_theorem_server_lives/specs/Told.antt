-- The headline for the histories of clusters.
use Rattle.std.specs.Prelude.{List, ℕ, ◌≡◌}
use Rattle.mdcc_config.specs.IsConfig.{IsConfig}
use Rattle.mdcc_config.specs.declared.config.Config.{Config}
use Rattle.mdcc_def_messages.specs.declared.facts.Fact.{Fact}
use Rattle.mdcc_theorem_clusters.specs.Clusters.{log_of}
use Rattle.mdcc_theorem_clusters.specs.Headline.{IsToldTruly}
use Rattle.mdcc_theorem_server_lives.specs.Histories.{IsHistory, Present, Step, after_life_steps, at_first}

-- There is one order of all facts that are in the logs, and the headline holds of it and of all acts that were done.
pub record HasHeadline (config : Config) (present : Present) : Type 0 where
  pub durable : List (ℕ × Fact)
  pub logs : (a : ℕ) → present.log a ≡ log_of durable a
  pub told : IsToldTruly config present.done durable

abbrev pub HeadlineOfHistories : Type 0
HeadlineOfHistories = (config : Config) → IsConfig config → (steps : List Step) → IsHistory config at_first steps → HasHeadline config (after_life_steps at_first steps)
