-- What a rule of a node stands on besides what the node keeps and what comes: the cluster, the centre's number, and its facts.
use Rattle.std.specs.Prelude.{List, ℕ}
use Rattle.mdcc_option.specs.declared.cluster.Cluster.{Cluster}
use Rattle.mdcc_def_messages.specs.declared.facts.Fact.{Fact}

-- facts: the newest first
pub record Here : Type 0 where
  pub cluster : Cluster
  pub me : ℕ
  pub facts : List Fact

abbrev pub here : Cluster → ℕ → List Fact → Here
here cluster me facts = record { cluster = cluster; me = me; facts = facts }
