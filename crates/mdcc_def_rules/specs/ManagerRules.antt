-- The node's rules around its manager and its recovery: begins, votes, and acceptors that give no vote.
use Rattle.std.specs.Prelude.{Err, List, None, Ok, Option, Result, Some, [], flat_map, if◌then◌else◌, ℕ, ◌∷◌}
use Rattle.mdcc_base.specs.Sizes.{Sizes}
use Rattle.mdcc_base.specs.declared.identifiers.TxId.{TxId}
use Rattle.mdcc_base.specs.declared.key.Key.{Key}
use Rattle.mdcc_option.specs.Transaction.{choices_of}
use Rattle.mdcc_option.specs.declared.choices.Cause.{Cause}
use Rattle.mdcc_option.specs.declared.choices.Choice.{Choice}
use Rattle.mdcc_option.specs.declared.choices.Outcome.{Outcome}
use Rattle.mdcc_option.specs.declared.cluster.Cluster.{Cluster}
use Rattle.mdcc_option.specs.declared.faults.BeginFault.{BeginFault}
use Rattle.mdcc_option.specs.declared.items.Part.{Part}
use Rattle.mdcc_def_protocol.specs.Facts.{epoch_of, is_settled}
use Rattle.mdcc_def_ledger.specs.Ledger.{Entry}
use Rattle.mdcc_def_protocol.specs.Manager
use Rattle.mdcc_def_protocol.specs.Manager.{key_refused}
use Rattle.mdcc_def_rules.specs.Messages.{to_all, to_one, to_others}
use Rattle.mdcc_def_protocol.specs.Recover
use Rattle.mdcc_def_rules.specs.Steps.{NodeStep, adding, answering, nothing_done, sending}
use Rattle.mdcc_def_rules.specs.SyncRules.{give_sent}
use Rattle.mdcc_def_protocol.specs.Volatile.{Managing, Volatile, closed, is_opened, with_manager, with_recovery}
use Rattle.mdcc_def_messages.specs.declared.facts.Fact.{Fact}
use Rattle.mdcc_def_protocol.specs.declared.manager.ManagerAct.{ManagerAct}
use Rattle.mdcc_def_messages.specs.declared.messages.Envelope.{Envelope}
use Rattle.mdcc_def_messages.specs.declared.messages.Message.{Message}
use Rattle.mdcc_def_rules.specs.declared.node.Answer.{Answer}
use Rattle.mdcc_def_protocol.specs.declared.votes.Vote.{Vote}
use Rattle.mdcc_def_rules.specs.Here.{Here}

-- ---- begins

-- the choices of a begun transaction are proposed to all
abbrev pub proposals_sent : Sizes → ℕ → List Choice → List Envelope
proposals_sent quorums me choices = flat_map (λ choice. to_all quorums me (Message.Propose choice)) choices

-- the transaction is an entry of the ledger
abbrev pub begun_step : Cluster → ℕ → Volatile → List Part → TxId × Managing → NodeStep
begun_step cluster me volatile parts (tx, manager) =
    let choices = choices_of tx parts in
    record {
      entries = Entry.Begun me tx choices ∷ [];
      fact = None;
      sends = proposals_sent cluster.quorums me choices;
      answer = Some (Answer.Begun tx);
      after = with_manager volatile manager;
    }

abbrev pub begin_step_by : Here → Volatile → List Part → Result (TxId × Managing) BeginFault → NodeStep
begin_step_by here volatile parts (Err fault) = answering volatile (Answer.Refused (key_refused here.facts parts) fault)
begin_step_by here volatile parts (Ok next) = begun_step here.cluster here.me volatile parts next

-- a client begins a transaction, whose parts stand in key order
abbrev pub begin_step : Here → Volatile → List Part → NodeStep
begin_step here volatile parts =
    begin_step_by here volatile parts (Manager.begin here.me (epoch_of here.facts) here.facts volatile.manager parts)

-- ---- acts

-- what an act of the manager sends
abbrev pub act_sent : ℕ → List Fact → Option ManagerAct → List Envelope
act_sent me facts (Some (ManagerAct.Lead leader choice)) = to_one me leader (Message.Lead choice)
act_sent me facts (Some (ManagerAct.Give centre key)) = give_sent me facts centre key
act_sent me facts act = []

abbrev pub acted_step : ℕ → List Fact → Volatile → Option ManagerAct × Managing → NodeStep
acted_step me facts volatile (act, manager) = sending (with_manager volatile manager) (act_sent me facts act)

-- ---- votes

-- the transaction is decided here: its outcome is heard, and goes to all others
abbrev pub decided_step : Cluster → ℕ → Volatile → TxId → Outcome → NodeStep
decided_step cluster me volatile tx outcome =
    adding (closed volatile tx) (Fact.Heard tx outcome) (to_others cluster.quorums me (Message.Outcome tx outcome))

-- a vote on an open transaction that decides nothing
abbrev pub undecided_step : Here → Volatile → Vote → NodeStep
undecided_step here volatile vote =
    acted_step here.me here.facts volatile (Manager.on_voted here.cluster.quorums volatile.manager vote)

-- a vote that decides is not taken, since its transaction is closed
abbrev pub opened_step : Here → Volatile → Vote → Option Outcome → NodeStep
opened_step here volatile vote (Some outcome) = decided_step here.cluster here.me volatile vote.tx outcome
opened_step here volatile vote None = undecided_step here volatile vote

-- the same for a transaction that is watched, or neither open nor watched
abbrev pub watched_step : Here → Volatile → Vote → Option (TxId × Outcome) → NodeStep
watched_step here volatile vote (Some decided) = decided_step here.cluster here.me volatile decided.0 decided.1
watched_step here volatile vote None =
    nothing_done (with_recovery volatile (Recover.on_voted here.cluster.quorums here.facts volatile.recovery vote).1)

-- a vote came
abbrev pub voted_step : Here → Volatile → Vote → NodeStep
voted_step here volatile vote =
    if is_settled here.facts vote.tx then nothing_done volatile
    else (if is_opened volatile.manager vote.tx
    then opened_step here volatile vote (Manager.would_decide here.cluster.quorums volatile.manager vote)
    else watched_step here volatile vote (Recover.would_decide here.cluster.quorums here.facts volatile.recovery vote))

-- a centre a gives no vote
abbrev pub escalate_step : Here → Volatile → ℕ → Key → TxId → Cause → NodeStep
escalate_step here volatile a key tx cause =
    acted_step here.me here.facts volatile (Manager.on_escalate here.cluster.quorums volatile.manager a tx key cause)
