-- Messages as they are to be sent: their bytes, with the endpoints they go to.
use Rattle.std.specs.Prelude.{List, None, Option, Some, [], if◌then◌else◌, length, ⊤, ℕ, ◌+◌, ◌≤◌, ◌∷◌}
use Rattle.mdcc_base.specs.declared.outside.Address.{Address}
use Rattle.mdcc_config.specs.declared.config.Config.{Config}
use Rattle.mdcc_frag.specs.Datagrams.{message_limit}
use Rattle.mdcc_def_messages.specs.Spelling.{message_bytes}
use Rattle.mdcc_def_messages.specs.declared.messages.Envelope.{Envelope}
use Rattle.mdcc_serve_outbox.specs.declared.outgoing.Outgoing.{Outgoing}
use Rattle.mdcc_def_server_runs.specs.Acts.{Act}
use Rattle.mdcc_def_server_runs.specs.Sending.{address_to, datagrams_sent, next_head}
use Rattle.mdcc_def_server_runs.specs.Sites.{Doing, Site, and_then, doing, idle_site}
use Rattle.mdcc_wire.specs.Encoding.{is_too_long}

-- ---- the bytes of a message

-- none where they are too many
abbrev pub bytes_out : Envelope → Option (List ℕ)
bytes_out envelope = if is_too_long envelope then None else Some (message_bytes envelope)

abbrev pub outgoing : Envelope → Outgoing
outgoing envelope = record { to = envelope.to; bytes = bytes_out envelope }

-- they fit into datagrams
abbrev pub HasFewBytes : Option (List ℕ) → Type 0
HasFewBytes None = ⊤
HasFewBytes (Some bytes) = (1 ≤ length bytes) × (length bytes ≤ message_limit)

abbrev pub CanGo : Outgoing → Type 0
CanGo message = HasFewBytes message.bytes

-- ---- what sending them does

abbrev pub bytes_sent : Site → Option (List ℕ) → Address → Doing
bytes_sent site None to = doing (Act.Unsent ∷ []) site
bytes_sent site (Some bytes) to = doing (datagrams_sent (next_head site) to bytes) (record site { sent = site.sent + 1 })

abbrev pub sent_to : Site → Outgoing → Option Address → Doing
sent_to site message None = doing (Act.Unsent ∷ []) site
sent_to site message (Some to) = bytes_sent site message.bytes to

-- a message that is too long, or goes to no centre of the cluster, is not sent and has no serial
abbrev pub outgoing_sent : Config → Site → Outgoing → Doing
outgoing_sent config site message = sent_to site message (address_to config message.to)

-- one after the other
abbrev pub all_sent : Config → Site → List Outgoing → Doing
all_sent config site [] = idle_site site
all_sent config site (message ∷ messages) = and_then (outgoing_sent config site message) (λ next. all_sent config next messages)
