-- What the laws of allowed ledgers speak of.
use Rattle.std.specs.Prelude.{Bool, IsTrue, List, Some, false, true, ℕ, ◌-◌, ◌^◌, ◌≡◌, ◌≤◌}
use Rattle.mdcc_base.specs.Counts.{number_of}
use Rattle.mdcc_base.specs.declared.identifiers.Ballot.{Ballot}
use Rattle.mdcc_base.specs.declared.identifiers.TxId.{TxId}
use Rattle.mdcc_base.specs.declared.key.Key.{Key}
use Rattle.mdcc_option.specs.declared.choices.Choice.{Choice}
use Rattle.mdcc_option.specs.declared.choices.Mark.{Mark}
use Rattle.mdcc_option.specs.declared.choices.Outcome.{Outcome}
use Rattle.mdcc_option.specs.declared.cluster.Cluster.{Cluster}
use Rattle.mdcc_option.specs.declared.items.Update.{Update}
use Rattle.mdcc_struct.specs.Maps.{value_of}
use Rattle.mdcc_struct.specs.declared.options.Options.{Options}
use Rattle.mdcc_def_ledger.specs.AllowedLedgers.{IsAllowed, is_valued}
use Rattle.mdcc_def_protocol.specs.Fit.{has_tx}
use Rattle.mdcc_def_protocol.specs.IsCluster.{IsCluster}
use Rattle.mdcc_def_ledger.specs.Ledger.{Entry, facts_of, is_chosen_at, outcome_of}
use Rattle.mdcc_def_protocol.specs.Facts.{is_heard}
use Rattle.mdcc_base.specs.Quorums.{all_centres}
use Rattle.std.specs.List.{list_all}

-- how many transactions were begun
abbrev pub is_begin : Entry → Bool
is_begin (Entry.Begun centre tx choices) = true
is_begin entry = false

abbrev pub begins_in : List Entry → ℕ
begins_in entries = number_of is_begin entries

-- an allowed ledger of a cluster, with too few transactions for a version to come to its end
pub record IsLedger (cluster : Cluster) (entries : List Entry) : Type 0 where
  pub of_cluster : IsCluster cluster
  pub allowed : IsAllowed cluster entries
  pub few : begins_in entries ≤ 2 ^ 64 - 1

-- a quorum of the ballot gave the transaction this mark in the instance
abbrev pub IsChosenAt : Cluster → List Entry → Key → ℕ → Ballot → TxId → Mark → Type 0
IsChosenAt cluster entries key version ballot tx mark = IsTrue (is_chosen_at cluster.quorums entries key version ballot tx mark)

-- all centres of the cluster had heard the transaction
abbrev pub DidAllHear : Cluster → List Entry → TxId → Type 0
DidAllHear cluster entries tx = IsTrue (list_all (λ b. is_heard (facts_of entries b) tx) (all_centres cluster.quorums))

-- a leader sent this structure
abbrev pub WasValued : List Entry → Key → ℕ → Ballot → Options → Type 0
WasValued entries key version ballot options = IsTrue (is_valued entries key version ballot options)

abbrev pub IsAbort : Cluster → List Entry → TxId → Type 0
IsAbort cluster entries tx = outcome_of cluster.quorums entries tx ≡ Some Outcome.Abort

abbrev pub IsCommit : Cluster → List Entry → TxId → List Choice → Type 0
IsCommit cluster entries tx choices = outcome_of cluster.quorums entries tx ≡ Some (Outcome.Commit choices)

-- these marks accept the choice
abbrev pub IsAcceptedBy : Options → Choice → Type 0
IsAcceptedBy options choice = value_of options choice.tx ≡ Some (Mark.Accept choice)

-- updates of two transactions on one version of a key: not both are Writes, and a Write has seen the transaction of the Add
abbrev pub do_agree : TxId → Update → TxId → Update → Bool
do_agree tx (Update.Write item seen) tx' (Update.Write item' seen') = false
do_agree tx (Update.Write item seen) tx' (Update.Add amounts) = has_tx seen tx'
do_agree tx (Update.Add amounts) tx' (Update.Write item seen) = has_tx seen tx
do_agree tx (Update.Add amounts) tx' (Update.Add amounts') = true

abbrev pub Agree : Choice → Choice → Type 0
Agree c d = IsTrue (do_agree c.tx c.update d.tx d.update)
