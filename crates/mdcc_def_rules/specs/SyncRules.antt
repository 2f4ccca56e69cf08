-- The node's rules around what is heard and passed on.
use Rattle.std.specs.Prelude.{List, None, Option, Some, [], ℕ}
use Rattle.mdcc_base.specs.declared.identifiers.TxId.{TxId}
use Rattle.mdcc_base.specs.declared.key.Key.{Key}
use Rattle.mdcc_option.specs.declared.choices.Outcome.{Outcome}
use Rattle.mdcc_def_rules.specs.Messages.{to_one}
use Rattle.mdcc_def_rules.specs.Steps.{NodeStep, adding, nothing_done, sending}
use Rattle.mdcc_def_protocol.specs.Visible.{on_outcome, on_sync_ask, on_sync_give}
use Rattle.mdcc_def_protocol.specs.Volatile.{Volatile, closed}
use Rattle.mdcc_def_messages.specs.declared.facts.Fact.{Fact}
use Rattle.mdcc_def_messages.specs.declared.messages.Envelope.{Envelope}
use Rattle.mdcc_def_messages.specs.declared.messages.Message.{Message}
use Rattle.mdcc_def_protocol.specs.declared.visible.Give.{Give}

-- ---- outcomes

-- a new fact closes its transaction here
abbrev pub outcome_step_by : Volatile → TxId → Option Fact → NodeStep
outcome_step_by volatile tx None = nothing_done volatile
outcome_step_by volatile tx (Some fact) = adding (closed volatile tx) fact []

-- the outcome of a transaction came
abbrev pub outcome_step : List Fact → Volatile → TxId → Outcome → NodeStep
outcome_step facts volatile tx outcome = outcome_step_by volatile tx (on_outcome facts tx outcome)

-- ---- catching up

abbrev pub give_sent_by : ℕ → ℕ → Option Give → List Envelope
give_sent_by me s (Some give) = to_one me s (Message.SyncGive give.key give.version give.item give.adds)
give_sent_by me s None = []

-- what is held of a key goes to s, where there is a version
abbrev pub give_sent : ℕ → List Fact → ℕ → Key → List Envelope
give_sent me facts s key = give_sent_by me s (on_sync_ask facts key)

-- a centre s asks for what is held of a key
abbrev pub sync_ask_step : ℕ → List Fact → Volatile → ℕ → Key → NodeStep
sync_ask_step me facts volatile s key = sending volatile (give_sent me facts s key)

abbrev pub sync_give_step_by : Volatile → Option Fact → NodeStep
sync_give_step_by volatile None = nothing_done volatile
sync_give_step_by volatile (Some fact) = adding volatile fact []

-- data of a key came
abbrev pub sync_give_step : List Fact → Volatile → Give → NodeStep
sync_give_step facts volatile give = sync_give_step_by volatile (on_sync_give facts give)
