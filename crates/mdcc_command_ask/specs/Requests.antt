-- What a client requests of one centre, and how it sends that.
use Rattle.std.specs.Prelude.{Bool, List, None, Option, Some, [], false, if◌then◌else◌, length, true, ℕ, ◌+◌}
use Rattle.mdcc_command_ask.specs.declared.client.Client.{Client}
use Rattle.mdcc_command_ask.specs.declared.client.Phase.{Phase}
use Rattle.mdcc_command_ask.specs.declared.order.Order.{Order}
use Rattle.mdcc_command_ask.specs.declared.reply.Reply.{Reply}
use Rattle.mdcc_base.specs.declared.outside.Address.{Address}
use Rattle.mdcc_config.specs.IsConfig.{address_above}
use Rattle.mdcc_config.specs.declared.config.Config.{Config}
use Rattle.mdcc_frag.specs.declared.datagrams.FragHead.{FragHead}
use Rattle.mdcc_def_messages.specs.Spelling.{message_bytes}
use Rattle.mdcc_def_messages.specs.declared.messages.Envelope.{Envelope}
use Rattle.mdcc_def_messages.specs.declared.messages.Message.{Message}
use Rattle.mdcc_def_server_runs.specs.Acts.{Act}
use Rattle.mdcc_def_server_runs.specs.Sending.{datagrams_sent}

-- what a client prints at once, whether it sends its request then, and what it is then
pub record Reaction : Type 0 where
  pub text : List ℕ
  pub sends : Bool
  pub client : Client

-- it replies this, and is this client then
abbrev pub reaction_of : Reply → Client → Reaction
reaction_of reply client = record { text = reply.text; sends = reply.sends; client = client }

-- nothing is printed or sent
abbrev pub idle : Client → Reaction
idle client = record { text = []; sends = false; client = client }

-- from the client of a centre to that centre
abbrev pub envelope_of : Order → Message → Envelope
envelope_of order message = record { from = order.centre + 16; to = order.centre; message = message }

-- a message is requested, and this is waited for then
abbrev pub requested : Order → Message → Phase → Client → Reaction
requested order message phase client =
    record { text = []; sends = true; client = record client { phase = phase; request = message_bytes (envelope_of order message) } }

-- ---- datagrams

-- Those of a request are the same each time that it is sent: their epoch is the serial of the order, and their serial the number of
-- the request, from 1.
abbrev pub request_head : Order → Client → FragHead
request_head order client = record { sender = order.centre + 16; epoch = order.serial; serial = length client.known + 1 }

abbrev pub request_sent_to : Order → Client → Option Address → List Act
request_sent_to order client (Some address) = datagrams_sent (request_head order client) address client.request
request_sent_to order client None = []

-- its request is sent
abbrev pub sends : Config → Order → Client → List Act
sends config order client = request_sent_to order client (address_above config 16 order.centre)

-- it is, where that is asked for
abbrev pub sends_if : Config → Order → Bool → Client → List Act
sends_if config order wanted client = if wanted then sends config order client else []

-- a request is open until it is answered; after a transaction was begun none is
abbrev pub is_open : Phase → Bool
is_open Phase.Reading = true
is_open Phase.Beginning = true
is_open phase = false

abbrev pub sends_again : Config → Order → Client → List Act
sends_again config order client = sends_if config order (is_open client.phase) client
