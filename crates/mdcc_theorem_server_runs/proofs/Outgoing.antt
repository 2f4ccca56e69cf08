-- What goes out of a centre, and what it tells of a run.
use Rattle.std.proofs.Common.{◌≡◌, ℕ, ◌==◌, Bool, true, false, cond, List, [], ◌++◌, Result, refl, sym, ◌∙◌, ap, subst, inl, inr, arith, append-nil, map}
use Rattle.std.proofs.lemmas.Bool.{cases_Bool, eqb-true}
use Rattle.std.proofs.lemmas.Bool.Decides.{nat_tests}
use Rattle.mdcc_config.specs.declared.config.Config.{Config}
use Rattle.mdcc_def_protocol.specs.Facts.{epoch_of}
use Rattle.mdcc_def_rules.specs.Steps.{NodeStep}
use Rattle.mdcc_def_rules.specs.declared.node.StepFault.{StepFault}
use Rattle.mdcc_theorem_server_runs.proofs.Joined.{LeavesOf}
use Rattle.mdcc_theorem_server_runs.proofs.Queued.{bare}
use Rattle.mdcc_theorem_server_runs.proofs.Seen.{Sees, inward_shows, shows_as, shows_heard, shows_logged, shows_then}
use Rattle.mdcc_theorem_server_runs.proofs.Sent.{SendAlike, SentAlike, sends_all, sent_alike, with_sent}
use Rattle.mdcc_theorem_server_runs.specs.Told.{Shows, TellsMade, node_after, server_heard_line}
use Rattle.mdcc_theorem_server_runs.specs.Without.{AreSeenAlike}
use Rattle.mdcc_def_server_runs.specs.Acts.{facts_appended}
use Rattle.mdcc_def_server_runs.specs.Runs.{NodeState}
use Rattle.mdcc_def_server_runs.specs.Sending.{envelopes_sent, persist_then_send, persisted}
use Rattle.mdcc_def_server_runs.specs.Sites.{Doing, Pending, Site, and_then, idle_site}

-- ---- what is pending goes out

pub out_shows : (config : Config) (site : Site)
    → Shows site.centre (persist_then_send config site).acts site.pending.facts (map (server_heard_line site.centre) site.pending.heard)
    (envelopes_sent config (persisted site) site.pending.envelopes).acts 0
out_shows config site =
    let sent = envelopes_sent config (persisted site) site.pending.envelopes in
    shows_as
    (shows_then (shows_logged site.centre site.pending.facts)
    (shows_then (sends_all site.centre config (persisted site) site.pending.envelopes).shows (shows_heard site.centre site.pending.heard)))
    (append-nil site.pending.facts) refl (append-nil sent.acts) refl

pub out_site : (config : Config) (site : Site) → (persist_then_send config site).site ≡ with_sent (persisted site) (persist_then_send config site).site.sent
out_site config site = (sends_all site.centre config (persisted site) site.pending.envelopes).site_is

pub out_appends : (config : Config) (site : Site) (c : ℕ) → facts_appended c (persist_then_send config site).acts ≡ cond (site.centre == c) site.pending.facts []
out_appends config site c =
    let shows = out_shows config site in
    elim (cases_Bool (site.centre == c)) [
      | inl e ↦ subst (λ (a : ℕ). facts_appended a (persist_then_send config site).acts ≡ site.pending.facts) (eqb-true site.centre c e) shows.facts_are
          ∙ sym (ap (λ (b : Bool). cond b site.pending.facts []) e)
      | inr e ↦ shows.others c (λ same. let is : (site.centre == c) ≡ true = grind (arith, nat_tests, same) in absurd (cc))
          ∙ sym (ap (λ (b : Bool). cond b site.pending.facts []) e)
    ]

pub out_sees : (config : Config) (site : Site)
    → Sees (persist_then_send config site).acts (λ c. cond (site.centre == c) site.pending.facts []) (map (server_heard_line site.centre) site.pending.heard)
    (envelopes_sent config (persisted site) site.pending.envelopes).acts 0
out_sees config site =
    let shows = out_shows config site in
    record { facts_are = out_appends config site; lines_are = shows.lines_are; sends_are = shows.sends_are; steps_are = shows.steps_are }

-- ---- after a turn

-- by whether it is held back
pub held_bare : (config : Config) (site : Site) (held : Bool) → bare (cond held (idle_site site) (persist_then_send config site)).site ≡ bare site
held_bare config site true = refl
held_bare config site false = ap bare (out_site config site)

-- ---- what a run is told by

pub run_tells : (config : Config) (site : Site) {made : List (Result NodeStep StepFault)} {did : Doing} → LeavesOf site made did
    → epoch_of (node_after site.node made).facts ≡ epoch_of site.node.facts → TellsMade config site made (and_then did (persist_then_send config))
run_tells config site {made = made} {did = did} leaves epoch =
    let next = did.site in
    let sent = envelopes_sent config (persisted next) next.pending.envelopes in
    let all = site.pending.envelopes ++ leaves.mail in
    let after = out_site config next in
    let same : epoch_of next.node.facts ≡ epoch_of site.node.facts = ap (λ (n : NodeState). epoch_of n.facts) leaves.node_is ∙ epoch in
    let alike : SendAlike (persisted next) site = record { centre = leaves.centre_is; epoch = same; sent = leaves.sent_is } in
    let sends : SentAlike (envelopes_sent config (persisted next) all) (envelopes_sent config site all) = sent_alike config (persisted next) site all alike in
    let out : Shows site.centre (persist_then_send config next).acts next.pending.facts (map (server_heard_line site.centre) next.pending.heard) sent.acts 0 =
    subst (λ (c : ℕ). Shows c (persist_then_send config next).acts next.pending.facts (map (server_heard_line c) next.pending.heard) sent.acts 0) leaves.centre_is
    (out_shows config next) in
    record {
      mail = leaves.mail;
      shows = shows_as (shows_then (inward_shows site.centre leaves.inward) out)
          (ap (λ (p : Pending). p.facts) leaves.pending_is)
          (ap (λ (p : Pending). map (server_heard_line site.centre) p.heard) leaves.pending_is)
          (ap (λ (p : Pending). (envelopes_sent config (persisted next) p.envelopes).acts) leaves.pending_is ∙ sends.acts)
          (omega arith);
      messages = leaves.messages;
      owed = leaves.owed;
      centre_is = ap (λ (s : Site). s.centre) after ∙ leaves.centre_is;
      node_is = ap (λ (s : Site). s.node) after ∙ leaves.node_is;
      epoch_is = ap (λ (s : Site). epoch_of s.node.facts) after ∙ same;
      sent_is = ap (λ (p : Pending). (envelopes_sent config (persisted next) p.envelopes).site.sent) leaves.pending_is ∙ (sends.sites).sent;
      logged_is = ap (λ (s : Site). s.logged) after ∙ sym (ap (λ (s : Site). s.node.facts) after);
      pending_is = ap (λ (s : Site). s.pending) after;
    }

-- the same of what is seen alike
pub tells_seen : {config : Config} {site : Site} {made : List (Result NodeStep StepFault)} {one other : Doing} → AreSeenAlike one other
    → TellsMade config site made other → TellsMade config site made one
tells_seen {site = site} seen tells = record {
  mail = tells.mail;
  shows = record {
    facts_are = seen.facts site.centre ∙ tells.shows.facts_are;
    others = λ b other. seen.facts b ∙ tells.shows.others b other;
    lines_are = seen.lines ∙ tells.shows.lines_are;
    sends_are = seen.sends ∙ tells.shows.sends_are;
    steps_are = seen.steps ∙ tells.shows.steps_are;
  };
  messages = tells.messages;
  owed = tells.owed;
  centre_is = ap (λ (s : Site). s.centre) seen.site ∙ tells.centre_is;
  node_is = ap (λ (s : Site). s.node) seen.site ∙ tells.node_is;
  epoch_is = ap (λ (s : Site). epoch_of s.node.facts) seen.site ∙ tells.epoch_is;
  sent_is = ap (λ (s : Site). s.sent) seen.site ∙ tells.sent_is;
  logged_is = ap (λ (s : Site). s.logged) seen.site ∙ (tells.logged_is ∙ sym (ap (λ (s : Site). s.node.facts) seen.site));
  pending_is = ap (λ (s : Site). s.pending) seen.site ∙ tells.pending_is;
}
