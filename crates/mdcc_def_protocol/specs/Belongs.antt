-- Whether the centres, attributes and numbers of values in a message or a fact are of the cluster.
use Rattle.std.specs.List.{list_all}
use Rattle.std.specs.Prelude.{Bool, List, None, Option, Some, length, nat_le, true, ℕ, ◌&&◌, ◌==◌, ◌||◌, false}
use Rattle.mdcc_base.specs.Ballot.{is_fast}
use Rattle.mdcc_base.specs.declared.identifiers.Ballot.{Ballot}
use Rattle.mdcc_base.specs.declared.identifiers.TxId.{TxId}
use Rattle.mdcc_option.specs.declared.choices.Cause.{Cause}
use Rattle.mdcc_option.specs.declared.choices.Choice.{Choice}
use Rattle.mdcc_option.specs.declared.choices.Mark.{Mark}
use Rattle.mdcc_option.specs.declared.choices.Outcome.{Outcome}
use Rattle.mdcc_option.specs.declared.cluster.Cluster.{Cluster}
use Rattle.mdcc_option.specs.declared.faults.BeginFault.{BeginFault}
use Rattle.mdcc_option.specs.declared.items.Delta.{Delta}
use Rattle.mdcc_option.specs.declared.items.Item.{Item}
use Rattle.mdcc_option.specs.declared.items.Update.{Update}
use Rattle.mdcc_struct.specs.declared.options.Options.{Options}
use Rattle.mdcc_def_protocol.specs.Marks.{Amounts}
use Rattle.mdcc_def_messages.specs.declared.facts.Fact.{Fact}
use Rattle.mdcc_def_messages.specs.declared.messages.ClientAnswer.{ClientAnswer}
use Rattle.mdcc_def_messages.specs.declared.messages.Message.{Message}

abbrev pub is_centre : Cluster → ℕ → Bool
is_centre cluster a = nat_le 1 a && nat_le a cluster.quorums.centres

abbrev pub tx_belongs : Cluster → TxId → Bool
tx_belongs cluster tx = is_centre cluster tx.centre

abbrev pub txs_belong : Cluster → List TxId → Bool
txs_belong cluster txs = list_all (tx_belongs cluster) txs

-- the 0 in the fast ballot is no centre
abbrev pub ballot_belongs : Cluster → Ballot → Bool
ballot_belongs cluster ballot = is_fast ballot || is_centre cluster ballot.centre

abbrev pub is_attribute : Cluster → ℕ → Bool
is_attribute cluster n = nat_le 1 n && nat_le n (length cluster.schema)

abbrev pub amounts_belong : Cluster → Amounts → Bool
amounts_belong cluster amounts = list_all (λ a. is_attribute cluster a.0) amounts

-- a value for each attribute
abbrev pub item_belongs : Cluster → Item → Bool
item_belongs cluster item = length item.values == length cluster.schema

abbrev pub update_belongs : Cluster → Update → Bool
update_belongs cluster (Update.Write item seen) = item_belongs cluster item && txs_belong cluster seen
update_belongs cluster (Update.Add amounts) = amounts_belong cluster amounts

abbrev pub choice_belongs : Cluster → Choice → Bool
choice_belongs cluster choice = tx_belongs cluster choice.tx && update_belongs cluster choice.update

abbrev pub mark_belongs : Cluster → Mark → Bool
mark_belongs cluster (Mark.Accept choice) = choice_belongs cluster choice
mark_belongs cluster Mark.Reject = true

abbrev pub options_belong : Cluster → Options → Bool
options_belong cluster options = list_all (λ e. tx_belongs cluster e.0 && mark_belongs cluster e.1) options

abbrev pub outcome_belongs : Cluster → Outcome → Bool
outcome_belongs cluster (Outcome.Commit choices) = list_all (choice_belongs cluster) choices
outcome_belongs cluster Outcome.Abort = true

abbrev pub adds_belong : Cluster → List Delta → Bool
adds_belong cluster adds = list_all (λ delta. tx_belongs cluster delta.tx && amounts_belong cluster delta.amounts) adds

abbrev pub offered_belongs : Cluster → Option Choice → Bool
offered_belongs cluster (Some choice) = choice_belongs cluster choice
offered_belongs cluster None = true

-- a quantity is the number of adds or an attribute
abbrev pub cause_belongs : Cluster → Cause → Bool
cause_belongs cluster (Cause.Classic ballot) = ballot_belongs cluster ballot
cause_belongs cluster (Cause.Limit quantity) = nat_le quantity (length cluster.schema)
cause_belongs cluster _ = true

-- ---- facts

abbrev pub fact_belongs : Cluster → Fact → Bool
fact_belongs cluster (Fact.Booted epoch) = true
fact_belongs cluster (Fact.Promised key low high ballot) = ballot_belongs cluster ballot
fact_belongs cluster (Fact.Voted key version ballot options offered) =
    ballot_belongs cluster ballot && options_belong cluster options && offered_belongs cluster offered
fact_belongs cluster (Fact.Heard tx outcome) = tx_belongs cluster tx && outcome_belongs cluster outcome
fact_belongs cluster (Fact.Adopted key version item adds) = item_belongs cluster item && adds_belong cluster adds
-- no centre of this program sets a floor yet
fact_belongs cluster (Fact.Floor centre epoch seq) = false

-- ---- messages

abbrev pub item_read_belongs : Cluster → Option Item → Bool
item_read_belongs cluster (Some item) = item_belongs cluster item
item_read_belongs cluster None = true

abbrev pub begin_fault_belongs : Cluster → BeginFault → Bool
begin_fault_belongs cluster (BeginFault.Stale token) = txs_belong cluster token.seen
begin_fault_belongs cluster _ = true

abbrev pub client_answer_belongs : Cluster → ClientAnswer → Bool
client_answer_belongs cluster (ClientAnswer.Read key token item due) = txs_belong cluster token.seen && item_read_belongs cluster item
client_answer_belongs cluster (ClientAnswer.Begun tx) = tx_belongs cluster tx
client_answer_belongs cluster (ClientAnswer.Refused key fault) = begin_fault_belongs cluster fault
client_answer_belongs cluster (ClientAnswer.Heard tx is_commit) = tx_belongs cluster tx
client_answer_belongs cluster (ClientAnswer.Draft fault) = true

abbrev pub message_belongs : Cluster → Message → Bool
message_belongs cluster (Message.Propose choice) = choice_belongs cluster choice
message_belongs cluster (Message.Voted key version ballot tx mark) =
    ballot_belongs cluster ballot && tx_belongs cluster tx && mark_belongs cluster mark
message_belongs cluster (Message.Escalate key version tx cause) = tx_belongs cluster tx && cause_belongs cluster cause
message_belongs cluster (Message.Lead choice) = choice_belongs cluster choice
message_belongs cluster (Message.Prepare key version through ballot) = ballot_belongs cluster ballot
message_belongs cluster (Message.Promise key version through ballot reported votes) =
    ballot_belongs cluster ballot && ballot_belongs cluster reported && options_belong cluster votes
message_belongs cluster (Message.Accept key version ballot options) = ballot_belongs cluster ballot && options_belong cluster options
message_belongs cluster (Message.Refused key version ballot promised) = ballot_belongs cluster ballot && ballot_belongs cluster promised
message_belongs cluster (Message.Outcome tx outcome) = tx_belongs cluster tx && outcome_belongs cluster outcome
message_belongs cluster (Message.Ask tx key version) = tx_belongs cluster tx
message_belongs cluster (Message.SyncAsk key) = true
message_belongs cluster (Message.SyncGive key version item adds) = item_belongs cluster item && adds_belong cluster adds
message_belongs cluster (Message.ClientRead serial key) = true
message_belongs cluster (Message.ClientBegin serial parts) = list_all (λ part. update_belongs cluster part.update) parts
message_belongs cluster (Message.ClientAnswer serial answer) = client_answer_belongs cluster answer
message_belongs cluster (Message.Mark centre epoch seq) = is_centre cluster centre
message_belongs cluster (Message.Finished tx) = tx_belongs cluster tx
