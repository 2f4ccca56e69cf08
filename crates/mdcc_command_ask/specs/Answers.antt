-- What a client makes of the answers.
use Rattle.std.specs.Option.{option_map_or}
use Rattle.std.specs.Prelude.{Bool, Err, List, None, Ok, Option, Result, Some, [], false, if◌then◌else◌, length, slice_get, ℕ, ◌&&◌, ◌+◌, ◌++◌, ◌==◌, ◌∷◌}
use Rattle.mdcc_command_ask.specs.Requests.{Reaction, idle, requested}
use Rattle.mdcc_command_ask.specs.Texts.{begin_line, draft_line, heard_line, read_line, refused_line}
use Rattle.mdcc_command_ask.specs.declared.client.Client.{Client}
use Rattle.mdcc_command_ask.specs.declared.client.Phase.{Phase}
use Rattle.mdcc_command_ask.specs.declared.order.Order.{Order}
use Rattle.mdcc_base.specs.Key.{key_eq}
use Rattle.mdcc_base.specs.TxId.{tx_eq}
use Rattle.mdcc_base.specs.declared.identifiers.TxId.{TxId}
use Rattle.mdcc_def_language.specs.Resolve.{resolve}
use Rattle.mdcc_def_language.specs.declared.schedule.ResolveFault.{ResolveFault}
use Rattle.mdcc_def_messages.specs.declared.messages.ClientAnswer.{ClientAnswer}
use Rattle.mdcc_def_messages.specs.declared.messages.Envelope.{Envelope}
use Rattle.mdcc_def_messages.specs.declared.messages.Message.{Message}
use Rattle.mdcc_option.specs.Transaction.{transaction_of}
use Rattle.mdcc_option.specs.declared.faults.BeginFault.{BeginFault}
use Rattle.mdcc_option.specs.declared.faults.DraftFault.{DraftFault}
use Rattle.mdcc_option.specs.declared.items.Known.{Known}
use Rattle.mdcc_option.specs.declared.items.Part.{Part}
use Rattle.mdcc_option.specs.declared.schema.Schema.{Schema}

-- ---- the next request

-- it is done, and prints this
abbrev pub answered : List ℕ → Client → Reaction
answered text client = record { text = text; sends = false; client = record client { phase = Phase.Answered } }

-- the transaction of its updates, where their parts make one
abbrev pub begins_parts : Order → Client → Result (List Part) DraftFault → Reaction
begins_parts order client (Err fault) = answered (draft_line fault) client
begins_parts order client (Ok parts) = requested order (Message.ClientBegin order.serial parts) Phase.Beginning client

-- an update of a key that has no item; each read that is named was made, as is part of an order
abbrev pub unresolved : Client → ResolveFault → Reaction
unresolved client (ResolveFault.NoItem key) = answered (refused_line key BeginFault.NoItem) client
unresolved client fault = answered [] client

-- the parts of its updates, by what it read
abbrev pub begins : Schema → Order → Client → Result (List Part) ResolveFault → Reaction
begins schema order client (Err fault) = unresolved client fault
begins schema order client (Ok parts) = begins_parts order client (transaction_of schema parts)

-- the key that is to be read next
abbrev pub next_key : Order → Client → Option (List ℕ)
next_key order client = slice_get order.keys (length client.known)

-- with all keys read, the transaction of its updates is begun, where there are any
abbrev pub begins_any : Schema → Order → Client → Reaction
begins_any schema order client =
    if length order.updates == 0 then answered [] client else begins schema order client (resolve order.updates client.known)

abbrev pub next_by : Schema → Order → Client → Option (List ℕ) → Reaction
next_by schema order client (Some key) = requested order (Message.ClientRead order.serial key) Phase.Reading client
next_by schema order client None = begins_any schema order client

abbrev pub goes_on : Schema → Order → Client → Reaction
goes_on schema order client = next_by schema order client (next_key order client)

-- ---- an answer

-- this first
abbrev pub printing_first : List ℕ → Reaction → Reaction
printing_first text next = record next { text = text ++ next.text }

-- a read was answered
abbrev pub with_known : Client → Known → Client
with_known client known = record client { known = client.known ++ Some known ∷ [] }

abbrev pub shows_read : Schema → Order → Client → Known → Reaction
shows_read schema order client known =
    printing_first (read_line (length client.known + 1) order.centre known) (goes_on schema order (with_known client known))

-- an answer to another key is passed over
abbrev pub is_asked : Order → Client → List ℕ → Bool
is_asked order client about = option_map_or (λ key. key_eq about key) (next_key order client) false

abbrev pub asked_shown : Schema → Order → Client → Known → Reaction
asked_shown schema order client known = if is_asked order client known.key then shows_read schema order client known else idle client

-- what a read answers of its key
abbrev pub shown_in : ClientAnswer → Option Known
shown_in (ClientAnswer.Read key token item due) = Some (record { key = key; token = token; item = item })
shown_in answer = None

abbrev pub read_answer_by : Schema → Order → Client → Option Known → Reaction
read_answer_by schema order client (Some known) = asked_shown schema order client known
read_answer_by schema order client None = idle client

abbrev pub read_answer_taken : Schema → Order → Client → ClientAnswer → Reaction
read_answer_taken schema order client answer = read_answer_by schema order client (shown_in answer)

abbrev pub begun : Client → TxId → Reaction
begun client tx = record { text = begin_line tx; sends = false; client = record client { phase = Phase.Waiting tx } }

abbrev pub begin_answer_taken : Order → Client → ClientAnswer → Reaction
begin_answer_taken order client (ClientAnswer.Begun tx) = begun client tx
begin_answer_taken order client (ClientAnswer.Refused key fault) = answered (refused_line key fault) client
begin_answer_taken order client (ClientAnswer.Heard tx is_commit) = answered (begin_line tx ++ heard_line order.centre tx is_commit) client
begin_answer_taken order client (ClientAnswer.Draft fault) = answered (draft_line fault) client
begin_answer_taken order client answer = idle client

-- how this transaction ended; the end of another one is passed over
abbrev pub end_in : TxId → ClientAnswer → Option Bool
end_in tx (ClientAnswer.Heard other is_commit) = if tx_eq other tx then Some is_commit else None
end_in tx answer = None

abbrev pub end_by : Order → Client → TxId → Option Bool → Reaction
end_by order client tx (Some is_commit) = answered (heard_line order.centre tx is_commit) client
end_by order client tx None = idle client

abbrev pub end_taken : Order → Client → TxId → ClientAnswer → Reaction
end_taken order client tx answer = end_by order client tx (end_in tx answer)

-- by what the client waits for
abbrev pub taken_at : Phase → Schema → Order → Client → ClientAnswer → Reaction
taken_at Phase.Reading schema order client answer = read_answer_taken schema order client answer
taken_at Phase.Beginning schema order client answer = begin_answer_taken order client answer
taken_at (Phase.Waiting tx) schema order client answer = end_taken order client tx answer
taken_at Phase.Answered schema order client answer = idle client

abbrev pub answer_taken : Schema → Order → Client → ClientAnswer → Reaction
answer_taken schema order client answer = taken_at client.phase schema order client answer

-- ---- a message

-- the answer in a message that counts: from the centre to its client, under the serial of the order
abbrev pub counts : Order → Envelope → ℕ → Bool
counts order envelope serial = envelope.from == order.centre && (envelope.to == order.centre + 16 && serial == order.serial)

abbrev pub client_answer_by : Order → Envelope → Message → Option ClientAnswer
client_answer_by order envelope (Message.ClientAnswer serial answer) = if counts order envelope serial then Some answer else None
client_answer_by order envelope message = None

abbrev pub answer_in : Order → Envelope → Option ClientAnswer
answer_in order envelope = client_answer_by order envelope envelope.message

abbrev pub maybe_taken : Schema → Order → Client → Option ClientAnswer → Reaction
maybe_taken schema order client (Some answer) = answer_taken schema order client answer
maybe_taken schema order client None = idle client

abbrev pub message_taken : Schema → Order → Client → Envelope → Reaction
message_taken schema order client envelope = maybe_taken schema order client (answer_in order envelope)
