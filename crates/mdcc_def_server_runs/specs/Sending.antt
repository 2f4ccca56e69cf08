-- How a centre sends its messages: each as datagrams, under its next serial in this epoch.
use Rattle.std.specs.List.{range_with_len}
use Rattle.std.specs.Prelude.{Bool, List, None, Ok, Option, Some, [], if◌then◌else◌, length, map, nat_lt, ℕ, ◌+◌, ◌++◌, ◌-◌, ◌∷◌}
use Rattle.mdcc_base.specs.declared.identifiers.TxId.{TxId}
use Rattle.mdcc_base.specs.declared.outside.Address.{Address}
use Rattle.mdcc_config.specs.IsConfig.{address_above}
use Rattle.mdcc_config.specs.declared.config.Config.{Config}
use Rattle.mdcc_frag.specs.Datagrams.{count, datagram, message_limit}
use Rattle.mdcc_frag.specs.declared.datagrams.FragHead.{FragHead}
use Rattle.mdcc_def_messages.specs.Lengths.{message_length}
use Rattle.mdcc_def_messages.specs.Spelling.{message_bytes}
use Rattle.mdcc_def_messages.specs.declared.facts.Fact.{Fact}
use Rattle.mdcc_def_messages.specs.declared.messages.ClientAnswer.{ClientAnswer}
use Rattle.mdcc_def_messages.specs.declared.messages.Envelope.{Envelope}
use Rattle.mdcc_def_messages.specs.declared.messages.Message.{Message}
use Rattle.mdcc_def_protocol.specs.Belongs.{is_centre}
use Rattle.mdcc_def_protocol.specs.Facts.{epoch_of}
use Rattle.mdcc_def_server_runs.specs.Acts.{Act}
use Rattle.mdcc_def_server_runs.specs.Sites.{Doing, Site, and_then, doing, idle_site, nothing_pending}
use Rattle.mdcc_def_server_runs.specs.declared.lines.ServerLine.{ServerLine}

-- where messages to an endpoint are sent: to a centre of the cluster, or to where the client of one takes its answers
abbrev pub address_to : Config → ℕ → Option Address
address_to config to =
    if is_centre config.cluster to then address_above config 0 to
    else (if is_centre config.cluster (to - 16) then address_above config 32 (to - 16) else None)

-- ---- one message

-- the datagrams of a message's bytes, in order
abbrev pub datagrams_sent : FragHead → Address → List ℕ → List Act
datagrams_sent head to bytes =
    map (λ index. Act.Send head.sender to (datagram head index bytes) (Ok tt)) (range_with_len 0 (count (length bytes)))

-- the next message of a centre: the serials count from 1 in each epoch
abbrev pub next_head : Site → FragHead
next_head site = record { sender = site.centre; epoch = epoch_of site.node.facts; serial = site.sent + 1 }

-- a message that is too long, or goes to no centre of the cluster, is not sent and has no serial
abbrev pub message_sent_to : Site → Envelope → Option Address → Doing
message_sent_to site envelope None = doing (Act.Unsent ∷ []) site
message_sent_to site envelope (Some to) =
    if nat_lt message_limit (message_length envelope) then doing (Act.Unsent ∷ []) site
    else doing (datagrams_sent (next_head site) to (message_bytes envelope)) (record site { sent = site.sent + 1 })

abbrev pub message_sent : Config → Site → Envelope → Doing
message_sent config site envelope = message_sent_to site envelope (address_to config envelope.to)

-- ---- more

-- one after the other
abbrev pub envelopes_sent : Config → Site → List Envelope → Doing
envelopes_sent config site [] = idle_site site
envelopes_sent config site (envelope ∷ envelopes) = and_then (message_sent config site envelope) (λ next. envelopes_sent config next envelopes)

-- an answer to the client of a centre
abbrev pub answer_to : ℕ → ℕ → ClientAnswer → Envelope
answer_to centre serial answer = record { from = centre; to = centre + 16; message = Message.ClientAnswer serial answer }

-- ---- what is pending

-- these facts go into the log
abbrev pub facts_logged : ℕ → List Fact → List Act
facts_logged centre [] = []
facts_logged centre facts = Act.Append centre facts ∷ []

-- the lines of outcomes that were heard
abbrev pub heard_printed : ℕ → List (TxId × Bool) → List Act
heard_printed centre heard = map (λ h. Act.Print (ServerLine.Heard centre h.0 h.1)) heard

-- with nothing pending, once its log has all facts of its node
abbrev pub persisted : Site → Site
persisted site = record site { logged = site.node.facts; pending = nothing_pending }

-- What is pending goes out: the facts into the log before all else, then the messages, and then the lines.
abbrev pub persist_then_send : Config → Site → Doing
persist_then_send config site =
    let sent = envelopes_sent config (persisted site) site.pending.envelopes in
    doing (facts_logged site.centre site.pending.facts ++ (sent.acts ++ heard_printed site.centre site.pending.heard)) sent.site
