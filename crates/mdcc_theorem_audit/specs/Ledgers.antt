-- What an audit says of the logs of an allowed ledger.
use Rattle.std.specs.Option.{option_to_list}
use Rattle.std.specs.Prelude.{List, None, Ok, Option, Some, [], flat_map, fold, map, reverse, ◌++◌, ◌∷◌, ◌≡◌}
use Rattle.mdcc_base.specs.Quorums.{all_centres}
use Rattle.mdcc_base.specs.declared.identifiers.TxId.{TxId}
use Rattle.mdcc_option.specs.declared.choices.Outcome.{Outcome}
use Rattle.mdcc_option.specs.declared.cluster.Cluster.{Cluster}
use Rattle.mdcc_struct.specs.Maps.{TxMap, txs_of}
use Rattle.mdcc_def_messages.specs.declared.facts.Fact.{Fact}
use Rattle.mdcc_def_ledger.specs.Ledger.{Entry, facts_of, outcome_of, with_tx}
use Rattle.mdcc_theorem_agreement.specs.Laws.{IsLedger}
use Rattle.mdcc_audit.specs.Auditing.{audit_state_after}
use Rattle.mdcc_audit.specs.Logs.{audit_of, placed_of}
use Rattle.mdcc_audit.specs.declared.audited.Verdict3.{Verdict3}

-- the logs of the centres, with the oldest fact first
abbrev pub logs_of : Cluster → List Entry → List (List Fact)
logs_of cluster ledger = map (λ a. reverse (facts_of ledger a)) (all_centres cluster.quorums)

-- ---- no contradiction

-- no pair of outcomes is found
abbrev pub OutcomesAgree : Type 0
OutcomesAgree = (cluster : Cluster) (ledger : List Entry) → IsLedger cluster ledger →
    (audit_state_after cluster.quorums (placed_of (logs_of cluster ledger))).outcomes.found ≡ None

-- no pair of marks is found
abbrev pub MarksAgree : Type 0
MarksAgree = (cluster : Cluster) (ledger : List Entry) → IsLedger cluster ledger →
    (audit_state_after cluster.quorums (placed_of (logs_of cluster ledger))).marks.found ≡ None

-- no pair of choices is found
abbrev pub ChoicesAgree : Type 0
ChoicesAgree = (cluster : Cluster) (ledger : List Entry) → IsLedger cluster ledger →
    (audit_state_after cluster.quorums (placed_of (logs_of cluster ledger))).choices.found ≡ None

-- ---- the whole answer

-- the transactions that a fact names: those that it votes on and the one whose choice it was offered, or the one that it heard
abbrev pub txs_named : Fact → List TxId
txs_named (Fact.Voted key version ballot options offered) = txs_of options ++ map (λ choice. choice.tx) (option_to_list offered)
txs_named (Fact.Heard tx outcome) = tx ∷ []
txs_named fact = []

-- those that facts of logs name, ascending
abbrev pub txs_in : List (List Fact) → List TxId
txs_in logs = fold with_tx [] (flat_map (flat_map txs_named) logs)

-- an outcome as a verdict
abbrev pub verdict_for : Option Outcome → Verdict3
verdict_for None = Verdict3.Open
verdict_for (Some (Outcome.Commit choices)) = Verdict3.Commit
verdict_for (Some Outcome.Abort) = Verdict3.Abort

-- the ledger's outcome of each transaction that its facts name
abbrev pub outcomes_in : Cluster → List Entry → TxMap Verdict3
outcomes_in cluster ledger = map (λ tx. (tx, verdict_for (outcome_of cluster.quorums ledger tx))) (txs_in (logs_of cluster ledger))

-- the logs are not refused, and the verdicts are the ledger's outcomes
abbrev pub AuditGivesOutcomes : Type 0
AuditGivesOutcomes = (cluster : Cluster) (ledger : List Entry) → IsLedger cluster ledger →
    audit_of cluster.quorums (logs_of cluster ledger) ≡ Ok (outcomes_in cluster ledger)
