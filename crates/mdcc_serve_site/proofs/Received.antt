-- What came at an endpoint is taken.
use Rattle.std.proofs.Common.{◌≡◌, ℕ, ◌+◌, ◌≤◌, arith, List, Some, Result, Ok, refl, ap, subst}
use Rattle.mdcc_base.specs.declared.key.Key.{Key}
use Rattle.mdcc_config.specs.declared.config.Config.{Config}
use Rattle.mdcc_frag.specs.Joining.{JoinEntry, join}
use Rattle.mdcc_def_messages.specs.Lengths.{body_length, message_length}
use Rattle.mdcc_def_messages.specs.WellFormed.{IsWellFormedEnvelope}
use Rattle.mdcc_def_messages.specs.declared.messages.Envelope.{Envelope}
use Rattle.mdcc_def_messages.specs.declared.messages.Message.{Message}
use Rattle.mdcc_node.specs.StepAnswers.{IsInputGiven}
use Rattle.mdcc_option.specs.declared.cluster.Cluster.{Cluster}
use Rattle.mdcc_option.specs.declared.items.Part.{Part}
use Rattle.mdcc_serve_outbox.specs.Shows.{count_limited}
use Rattle.mdcc_def_rules.specs.declared.node.Input.{Input}
use Rattle.mdcc_def_server_runs.specs.Arrivals.{Arrival, arrival_of}
use Rattle.mdcc_def_server_runs.specs.Sites.{Doing, Site}
use Rattle.mdcc_def_server_runs.specs.Steps.{dropped}
use Rattle.mdcc_def_server_runs.specs.Turns.{asked_arrived, asked_message, asked_taken, own_arrived, own_message, own_taken}
use Rattle.mdcc_serve_site.proofs.Becoming.{Same, becomes_from, drops, idle_becomes, lacks_memory}
use Rattle.mdcc_serve_site.specs.SiteState.{Becomes, IsSite, Makes, MakesNone}
use Rattle.mdcc_serve_site.specs.declared.fault.ServeFault.{ServeFault}
use Rattle.mdcc_serve_site.specs.declared.site.Site.{Site as TheSite}
use Rattle.mdcc_theorem_node_steps.specs.NodeInvariant.{accept_length}

-- an Accept among them is no longer than it may be
accept_fits : (message : Message) → 4 + body_length message ≤ 2097152 → accept_length message ≤ 2097152
accept_fits (Message.Accept key version ballot options) few = few
accept_fits message few = omega arith

pub message_given : (x : Envelope) → IsWellFormedEnvelope x → message_length x ≤ 2097152 → IsInputGiven (Input.Message x)
message_given x formed few = (formed, accept_fits x.message few)

-- any other message is dropped
pub asked_other : (config : Config) (site : Site) (message : Message) → ((serial : ℕ) (key : Key) → message ≡ Message.ClientRead serial key → ⊥) → ((serial : ℕ) (parts : List Part) → message ≡ Message.ClientBegin serial parts → ⊥)
    → asked_message config site message ≡ dropped site
asked_other config site (Message.ClientRead serial key) unread unbegun = absurd (unread serial key refl)
asked_other config site (Message.ClientBegin serial parts) unread unbegun = absurd (unbegun serial parts refl)
asked_other config site message unread unbegun = refl

-- the centre with these pieces
module _ (cluster : Cluster) (site : Site) (held : TheSite) (is_site : IsSite cluster held site) (bytes : List ℕ) (entries : List JoinEntry) where
  pub own_is : entries ≡ (join bytes site.own).entries → IsSite cluster (record held { own = entries }) (record site { own = (join bytes site.own).entries })
  own_is is = record {
    node = is_site.node;
    kept = is_site.kept;
    centre = is_site.centre;
    sender = record { centre = is_site.sender.centre; epoch = is_site.sender.epoch; sent = is_site.sender.sent };
    clients = is_site.clients;
    own = is;
    asked = is_site.asked;
    waits = record { pending = is_site.waits.pending; all = is_site.waits.all; facts = is_site.waits.facts; envelopes = is_site.waits.envelopes };
  }

  pub asked_is : entries ≡ (join bytes site.asked).entries → IsSite cluster (record held { asked = entries }) (record site { asked = (join bytes site.asked).entries })
  asked_is is = record {
    node = is_site.node;
    kept = is_site.kept;
    centre = is_site.centre;
    sender = record { centre = is_site.sender.centre; epoch = is_site.sender.epoch; sent = is_site.sender.sent };
    clients = is_site.clients;
    own = is_site.own;
    asked = is;
    waits = record { pending = is_site.waits.pending; all = is_site.waits.all; facts = is_site.waits.facts; envelopes = is_site.waits.envelopes };
  }

module _ (cluster : Cluster) (config : Config) (site : Site) (held : TheSite) (is_site : IsSite cluster held site) (bytes : List ℕ) (entries : List JoinEntry) where
  -- ---- at its own endpoint

  abbrev own_site : Site
  own_site = record site { own = (join bytes site.own).entries }

  abbrev own_held : TheSite
  own_held = record held { own = entries }

  own_same : Same held own_held
  own_same = record { log = refl; steps = refl; dropped = refl; lost = refl }

  pub own_lacks : MakesNone ServeFault.Memory held own_held
  own_lacks = lacks_memory own_same

  pub own_piece : entries ≡ (join bytes site.own).entries → Arrival.Piece ≡ arrival_of (join bytes site.own).answer → Makes cluster site (own_taken config site (Some bytes)) held own_held
  own_piece is came = subst (λ (d : Doing). Makes cluster site d held own_held) (ap (own_arrived config own_site) came)
      (idle_becomes cluster site own_site held own_held refl refl own_same (own_is cluster site held is_site bytes entries is))

  pub own_refused : (new : TheSite) → new ≡ record own_held { dropped = count_limited (held.dropped + 1) } → entries ≡ (join bytes site.own).entries → Arrival.Refused ≡ arrival_of (join bytes site.own).answer
      → Makes cluster site (own_taken config site (Some bytes)) held new
  own_refused new drop is came = subst (λ (d : Doing). Makes cluster site d held new) (ap (own_arrived config own_site) came)
      (becomes_from {T = Unit {0}} cluster (dropped own_site) (Ok tt) site own_site held own_held new refl refl own_same (drops cluster own_site own_held new drop (own_is cluster site held is_site bytes entries is)))

  pub own_whole : {T : Type 0} (r : Result T ServeFault) (new : TheSite) (x : Envelope) → Arrival.Whole x ≡ arrival_of (join bytes site.own).answer
      → Becomes cluster own_site (own_message config own_site x) r own_held new → Becomes cluster site (own_taken config site (Some bytes)) r held new
  own_whole r new x came goes = subst (λ (d : Doing). Becomes cluster site d r held new) (ap (own_arrived config own_site) came)
      (becomes_from cluster (own_message config own_site x) r site own_site held own_held new refl refl own_same goes)

  -- ---- at its client's

  abbrev asked_site : Site
  asked_site = record site { asked = (join bytes site.asked).entries }

  abbrev asked_held : TheSite
  asked_held = record held { asked = entries }

  asked_same : Same held asked_held
  asked_same = record { log = refl; steps = refl; dropped = refl; lost = refl }

  pub asked_lacks : MakesNone ServeFault.Memory held asked_held
  asked_lacks = lacks_memory asked_same

  pub asked_piece : entries ≡ (join bytes site.asked).entries → Arrival.Piece ≡ arrival_of (join bytes site.asked).answer → Makes cluster site (asked_taken config site (Some bytes)) held asked_held
  asked_piece is came = subst (λ (d : Doing). Makes cluster site d held asked_held) (ap (asked_arrived config asked_site) came)
      (idle_becomes cluster site asked_site held asked_held refl refl asked_same (asked_is cluster site held is_site bytes entries is))

  pub asked_refused : (new : TheSite) → new ≡ record asked_held { dropped = count_limited (held.dropped + 1) } → entries ≡ (join bytes site.asked).entries → Arrival.Refused ≡ arrival_of (join bytes site.asked).answer
      → Makes cluster site (asked_taken config site (Some bytes)) held new
  asked_refused new drop is came = subst (λ (d : Doing). Makes cluster site d held new) (ap (asked_arrived config asked_site) came)
      (becomes_from {T = Unit {0}} cluster (dropped asked_site) (Ok tt) site asked_site held asked_held new refl refl asked_same (drops cluster asked_site asked_held new drop (asked_is cluster site held is_site bytes entries is)))

  pub asked_whole : {T : Type 0} (r : Result T ServeFault) (new : TheSite) (x : Envelope) → Arrival.Whole x ≡ arrival_of (join bytes site.asked).answer
      → Becomes cluster asked_site (asked_message config asked_site x.message) r asked_held new → Becomes cluster site (asked_taken config site (Some bytes)) r held new
  asked_whole r new x came goes = subst (λ (d : Doing). Becomes cluster site d r held new) (ap (asked_arrived config asked_site) came)
      (becomes_from cluster (asked_message config asked_site x.message) r site asked_site held asked_held new refl refl asked_same goes)
