-- Which messages a centre posts when what is pending goes out, and under which heads.
use Rattle.std.specs.Prelude.{List, None, Option, Some, [], if◌then◌else◌, nat_lt, true, ⊤, ℕ, ◌++◌, ◌<◌, ◌∷◌, ◌≡◌, ◌≤◌}
use Rattle.mdcc_base.specs.declared.outside.Address.{Address}
use Rattle.mdcc_config.specs.declared.config.Config.{Config}
use Rattle.mdcc_frag.specs.Datagrams.{message_limit}
use Rattle.mdcc_frag.specs.Joining.{same_head}
use Rattle.mdcc_def_messages.specs.Lengths.{message_length}
use Rattle.mdcc_def_messages.specs.declared.messages.Envelope.{Envelope}
use Rattle.mdcc_def_protocol.specs.Facts.{epoch_of}
use Rattle.mdcc_def_server_runs.specs.Acts.{Act}
use Rattle.mdcc_def_server_runs.specs.Sending.{address_to, envelopes_sent, message_sent, next_head}
use Rattle.mdcc_def_server_runs.specs.Sites.{Site}
use Rattle.mdcc_theorem_trace_states.specs.Words.{Each, In}
use Rattle.mdcc_theorem_clusters.specs.Mail.{IsPieceIn, Mail}

-- ---- what is posted

abbrev pub posted_to : Site → Envelope → Option Address → List Mail
posted_to site envelope None = []
posted_to site envelope (Some to) = if nat_lt message_limit (message_length envelope) then [] else ((next_head site, envelope) ∷ [])

abbrev pub posted : Config → Site → List Envelope → List Mail
posted config site [] = []
posted config site (envelope ∷ envelopes) =
    posted_to site envelope (address_to config envelope.to) ++ posted config (message_sent config site envelope).site envelopes

-- ---- what holds of it

-- a datagram is a piece of one of these, or a message is not sent
abbrev pub IsPieceAct : List Mail → Act → Type 0
IsPieceAct mail (Act.Send from to bytes answer) = IsPieceIn mail bytes
IsPieceAct mail Act.Unsent = ⊤
IsPieceAct mail act = ⊥

-- it is one of these messages, is short enough, and has a head of the centre in its epoch, with a serial above the one and not above the other
pub record IsPostedIn (centre epoch low high : ℕ) (envelopes : List Envelope) (one : Mail) : Type 0 where
  pub sender : one.0.sender ≡ centre
  pub epoch_is : one.0.epoch ≡ epoch
  pub above : low < one.0.serial
  pub within : one.0.serial ≤ high
  pub one_of : In one.1 envelopes
  pub short : message_length one.1 ≤ message_limit

-- no two have one head
abbrev pub OnceEach : List Mail → Type 0
OnceEach mail = (one other : Mail) → In one mail → In other mail → same_head one.0 other.0 ≡ true → one.1 ≡ other.1

-- What goes out when messages are sent: pieces of what is posted, under the next serials of the centre, each once. The centre only counts.
pub record Posts (config : Config) (site : Site) (envelopes : List Envelope) : Type 0 where
  pub acts : Each (IsPieceAct (posted config site envelopes)) (envelopes_sent config site envelopes).acts
  pub heads : Each (IsPostedIn site.centre (epoch_of site.node.facts) site.sent (envelopes_sent config site envelopes).site.sent envelopes) (posted config site envelopes)
  pub once : OnceEach (posted config site envelopes)
  pub counts : site.sent ≤ (envelopes_sent config site envelopes).site.sent
  pub site_is : (envelopes_sent config site envelopes).site ≡ record site { sent = (envelopes_sent config site envelopes).site.sent }

abbrev pub SendingPosts : Type 0
SendingPosts = (config : Config) (site : Site) (envelopes : List Envelope) → Posts config site envelopes
