-- What a centre that is served makes of its inputs.
use Rattle.std.specs.Prelude.{Bool, Err, List, None, Ok, Option, Result, Some, [], ℕ, ◌++◌, ◌∷◌}
use Rattle.mdcc_base.specs.declared.identifiers.TxId.{TxId}
use Rattle.mdcc_base.specs.declared.key.Key.{Key}
use Rattle.mdcc_config.specs.declared.config.Config.{Config}
use Rattle.mdcc_def_messages.specs.declared.messages.ClientAnswer.{ClientAnswer}
use Rattle.mdcc_def_messages.specs.declared.messages.Envelope.{Envelope}
use Rattle.mdcc_option.specs.Transaction.{transaction_of}
use Rattle.mdcc_option.specs.declared.faults.DraftFault.{DraftFault}
use Rattle.mdcc_option.specs.declared.items.Part.{Part}
use Rattle.mdcc_def_rules.specs.Steps.{NodeStep, heard_by}
use Rattle.mdcc_def_rules.specs.declared.node.Answer.{Answer}
use Rattle.mdcc_def_rules.specs.declared.node.Input.{Input}
use Rattle.mdcc_def_rules.specs.declared.node.StepFault.{StepFault}
use Rattle.mdcc_def_server_runs.specs.Acts.{Act}
use Rattle.mdcc_def_server_runs.specs.Clients.{begun_for, known_of, with_begun, with_end}
use Rattle.mdcc_def_server_runs.specs.Runs.{after_step, listed, step_on}
use Rattle.mdcc_def_server_runs.specs.Sending.{answer_to}
use Rattle.mdcc_def_server_runs.specs.Sites.{Doing, Site, after_acts, doing, idle_site, queued}
use Rattle.mdcc_def_server_runs.specs.declared.clients.Begun.{Begun}

-- ---- what a step leaves

-- A step leaves its fact, these messages and what is heard by it with what is not out yet.
abbrev pub step_queued : Site → NodeStep → List Envelope → Doing
step_queued site step envelopes =
    idle_site (queued (record site { node = after_step site.node (Ok step) }) (listed step.fact) envelopes (listed (heard_by step.fact)))

-- so does an answer to the client that no step made
abbrev pub answer_queued : Site → ℕ → ClientAnswer → Doing
answer_queued site serial answer = idle_site (queued site [] (answer_to site.centre serial answer ∷ []) [])

abbrev pub dropped : Site → Doing
dropped site = doing (Act.Dropped ∷ []) site

-- a step counts
abbrev pub stepped : Doing → Doing
stepped next = after_acts (Act.Stepped ∷ []) next

-- ---- messages and ticks

abbrev pub end_told : ℕ → TxId → Bool → Option Begun → Option Envelope
end_told centre tx is_commit None = None
end_told centre tx is_commit (Some begun) = Some (answer_to centre begun.serial (ClientAnswer.Heard tx is_commit))

-- a client hears of the end of a transaction that was begun for it
abbrev pub ends_told : Site → Option (TxId × Bool) → Option Envelope
ends_told site None = None
ends_told site (Some (tx, is_commit)) = end_told site.centre tx is_commit (known_of site.clients tx)

-- the client is told before the other centres
abbrev pub input_made : Site → Result NodeStep StepFault → Doing
input_made site (Err fault) = dropped site
input_made site (Ok step) =
    let heard = heard_by step.fact in
    stepped (step_queued (record site { clients = with_end site.clients heard }) step (listed (ends_told site heard) ++ step.sends))

-- a message or a tick
abbrev pub input_taken : Config → Site → Input → Doing
input_taken config site input = input_made site (step_on config.cluster site.centre site.node input)

-- ---- reads

abbrev pub reading_told : ℕ → ℕ → Key → Option Answer → Option Envelope
reading_told centre serial key (Some (Answer.Read reading)) =
    Some (answer_to centre serial (ClientAnswer.Read key reading.token reading.item reading.due))
reading_told centre serial key _ = None

abbrev pub read_made : Site → ℕ → Key → Result NodeStep StepFault → Doing
read_made site serial key (Err fault) = dropped site
read_made site serial key (Ok step) = stepped (step_queued site step (step.sends ++ listed (reading_told site.centre serial key step.answer)))

-- the client reads a key
abbrev pub read_taken : Config → Site → ℕ → Key → Doing
read_taken config site serial key = read_made site serial key (step_on config.cluster site.centre site.node (Input.Read key))

-- ---- begins

abbrev pub begin_told : ℕ → ℕ → Option Answer → Option Envelope
begin_told centre serial (Some (Answer.Begun tx)) = Some (answer_to centre serial (ClientAnswer.Begun tx))
begin_told centre serial (Some (Answer.Refused key fault)) = Some (answer_to centre serial (ClientAnswer.Refused key fault))
begin_told centre serial _ = None

abbrev pub begin_noted : Site → ℕ → Option Answer → Site
begin_noted site serial (Some (Answer.Begun tx)) = record site { clients = with_begun site.clients serial tx }
begin_noted site serial _ = site

-- the other centres are told before the client
abbrev pub begin_made : Site → ℕ → Result NodeStep StepFault → Doing
begin_made site serial (Err fault) = dropped site
begin_made site serial (Ok step) =
    stepped (step_queued (begin_noted site serial step.answer) step (step.sends ++ listed (begin_told site.centre serial step.answer)))

-- parts that make no transaction are answered without a step
abbrev pub draft_taken : Config → Site → ℕ → Result (List Part) DraftFault → Doing
draft_taken config site serial (Err fault) = answer_queued site serial (ClientAnswer.Draft fault)
draft_taken config site serial (Ok parts) =
    begin_made site serial (step_on config.cluster site.centre site.node (Input.Begin parts))

-- how it ended, where that was heard
abbrev pub known_told : TxId → Option Bool → ClientAnswer
known_told tx None = ClientAnswer.Begun tx
known_told tx (Some is_commit) = ClientAnswer.Heard tx is_commit

abbrev pub end_of_begun : Option Begun → Option Bool
end_of_begun None = None
end_of_begun (Some begun) = begun.ended

-- what was begun under this serial is answered again, without a step
abbrev pub begin_taken_by : Config → Site → ℕ → List Part → Option TxId → Doing
begin_taken_by config site serial parts (Some tx) =
    answer_queued site serial (known_told tx (end_of_begun (known_of site.clients tx)))
begin_taken_by config site serial parts None = draft_taken config site serial (transaction_of config.cluster.schema parts)

-- the client begins a transaction
abbrev pub begin_taken : Config → Site → ℕ → List Part → Doing
begin_taken config site serial parts = begin_taken_by config site serial parts (begun_for site.clients serial)
