-- The bytes of messages that are to be sent: that they can go, and that sending them is sending the messages.
use Rattle.std.proofs.Common.{◌≡◌, ◌+◌, ◌≤◌, Bool, true, false, cond, List, [], ◌∷◌, Option, Some, None, refl, ◌∙◌, ap, arith, length, map}
use Rattle.std.specs.List.{AllByRecursion}
use Rattle.mdcc_base.specs.declared.outside.Address.{Address}
use Rattle.mdcc_config.specs.declared.config.Config.{Config}
use Rattle.mdcc_def_messages.specs.Spelling.{message_bytes}
use Rattle.mdcc_def_messages.specs.declared.messages.Envelope.{Envelope}
use Rattle.mdcc_serve_outbox.proofs.Messages.{short_bytes}
use Rattle.mdcc_serve_outbox.specs.Outgoing.{CanGo, HasFewBytes, all_sent, bytes_sent, outgoing, outgoing_sent, sent_to}
use Rattle.mdcc_def_server_runs.specs.Acts.{Act}
use Rattle.mdcc_def_server_runs.specs.Sending.{address_to, datagrams_sent, envelopes_sent, message_sent, message_sent_to, next_head}
use Rattle.mdcc_def_server_runs.specs.Sites.{Doing, Site, after_acts, and_then, doing}
use Rattle.mdcc_theorem_encoding.proofs.Lengths.{length-message}
use Rattle.mdcc_wire.specs.Encoding.{is_too_long}

bytes_some : (x : Envelope) → 1 ≤ length (message_bytes x)
bytes_some x = let e = length-message x in omega (e, arith)

pub goes : (envelope : Envelope) → CanGo (outgoing envelope)
goes envelope = by_length (is_too_long envelope) refl
  where
    by_length : (long : Bool) → is_too_long envelope ≡ long → HasFewBytes (cond long None (Some (message_bytes envelope)))
    by_length true is = tt
    by_length false is = (bytes_some envelope, short_bytes envelope is)

pub all_go : (envelopes : List Envelope) → AllByRecursion CanGo (map outgoing envelopes)
all_go [] = tt
all_go (envelope ∷ envelopes) = (goes envelope, all_go envelopes)

-- ---- what sending them does

same_bytes : (site : Site) (envelope : Envelope) (to : Address) (long : Bool)
    → bytes_sent site (cond long None (Some (message_bytes envelope))) to
    ≡ cond long (doing (Act.Unsent ∷ []) site) (doing (datagrams_sent (next_head site) to (message_bytes envelope)) (record site { sent = site.sent + 1 }))
same_bytes site envelope to true = refl
same_bytes site envelope to false = refl

same_to : (site : Site) (envelope : Envelope) (to : Option Address) → sent_to site (outgoing envelope) to ≡ message_sent_to site envelope to
same_to site envelope None = refl
same_to site envelope (Some to) = same_bytes site envelope to (is_too_long envelope)

pub sent_same : (config : Config) (site : Site) (envelope : Envelope) → outgoing_sent config site (outgoing envelope) ≡ message_sent config site envelope
sent_same config site envelope = same_to site envelope (address_to config envelope.to)

pub all_same : (config : Config) (site : Site) (envelopes : List Envelope) → all_sent config site (map outgoing envelopes) ≡ envelopes_sent config site envelopes
all_same config site [] = refl
all_same config site (envelope ∷ envelopes) =
    ap (λ (d : Doing). and_then d (λ next. all_sent config next (map outgoing envelopes))) (sent_same config site envelope)
    ∙ ap (λ (d : Doing). after_acts (message_sent config site envelope).acts d) (all_same config (message_sent config site envelope).site envelopes)
