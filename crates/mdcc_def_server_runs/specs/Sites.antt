-- A centre that is served: its node, what stands between it and the outside, and what it does.
use Rattle.std.specs.Prelude.{Bool, List, [], ℕ, ◌++◌}
use Rattle.mdcc_base.specs.declared.identifiers.TxId.{TxId}
use Rattle.mdcc_frag.specs.Joining.{JoinEntry}
use Rattle.mdcc_def_messages.specs.declared.facts.Fact.{Fact}
use Rattle.mdcc_def_messages.specs.declared.messages.Envelope.{Envelope}
use Rattle.mdcc_def_server_runs.specs.Acts.{Act}
use Rattle.mdcc_def_server_runs.specs.Clients.{Clients}
use Rattle.mdcc_def_server_runs.specs.Runs.{NodeState}

-- What its steps made and is not out yet, the oldest first: facts that are not in its log, messages that are not sent, and outcomes that are
-- not printed.
pub record Pending : Type 0 where
  pub facts : List Fact
  pub envelopes : List Envelope
  pub heard : List (TxId × Bool)

abbrev pub nothing_pending : Pending
nothing_pending = record { facts = []; envelopes = []; heard = [] }

-- Its number and its node; the facts in its log, the newest first, which are those of its node but for the pending ones; how many messages
-- it has sent in this epoch; what its client began; the messages of which some pieces came, at its own endpoint and at its client's; and
-- what is not out yet.
pub record Site : Type 0 where
  pub centre : ℕ
  pub node : NodeState
  pub logged : List Fact
  pub sent : ℕ
  pub clients : Clients
  pub own : List JoinEntry
  pub asked : List JoinEntry
  pub pending : Pending

-- with these facts, messages and outcomes to come out after the others
abbrev pub queued : Site → List Fact → List Envelope → List (TxId × Bool) → Site
queued site facts envelopes heard = record site {
  pending = record {
    facts = site.pending.facts ++ facts;
    envelopes = site.pending.envelopes ++ envelopes;
    heard = site.pending.heard ++ heard;
  };
}

-- acts, and the centre afterwards
pub record Doing : Type 0 where
  pub acts : List Act
  pub site : Site

abbrev pub doing : List Act → Site → Doing
doing acts site = record { acts = acts; site = site }

abbrev pub idle_site : Site → Doing
idle_site site = doing [] site

-- these acts first
abbrev pub after_acts : List Act → Doing → Doing
after_acts acts next = doing (acts ++ next.acts) next.site

-- and then what comes of the centre
abbrev pub and_then : Doing → (Site → Doing) → Doing
and_then first next = after_acts first.acts (next first.site)
