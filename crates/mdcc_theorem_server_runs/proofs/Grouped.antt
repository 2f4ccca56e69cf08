-- How inputs are grouped changes nothing of what is seen but when it goes out.
use Rattle.std.proofs.Common.{◌≡◌, ℕ, ◌+◌, ◌==◌, Bool, true, false, cond, List, [], ◌∷◌, ◌++◌, Option, Some, None, refl, sym, ◌∙◌, ap, ap₂, subst, arith, map}
use Rattle.std.proofs.lemmas.Grind.{flat_map-append}
use Rattle.std.proofs.lemmas.List.{map-append}
use Rattle.mdcc_config.specs.declared.config.Config.{Config}
use Rattle.mdcc_frag.specs.Joining.{join}
use Rattle.mdcc_def_messages.specs.declared.facts.Fact.{Fact}
use Rattle.mdcc_def_messages.specs.declared.messages.Message.{Message}
use Rattle.mdcc_def_protocol.specs.Facts.{epoch_of}
use Rattle.mdcc_def_rules.specs.declared.node.Input.{Input}
use Rattle.mdcc_theorem_server_runs.proofs.Epoch.{run_keeps}
use Rattle.mdcc_theorem_server_runs.proofs.Outgoing.{held_bare, out_sees, out_site, run_tells, tells_seen}
use Rattle.mdcc_theorem_server_runs.proofs.Queued.{above, bare, inputs_queued, own_queued, quiet, quiet_queued, restored, with_pending}
use Rattle.mdcc_theorem_server_runs.proofs.Seen.{Sees, sees_then, steps_append}
use Rattle.mdcc_theorem_server_runs.proofs.Sent.{SentAlike, acts_then, sends_all, sent_alike, sent_joined, with_sent}
use Rattle.mdcc_theorem_server_runs.proofs.Turned.{RunsOn, quiet_inputs, quiet_runs}
use Rattle.mdcc_theorem_server_runs.proofs.Joined.{node_after_run}
use Rattle.mdcc_theorem_server_runs.specs.Inputs.{asked_input, asked_inputs, asked_message_input, inputs_in, own_inputs, tick_input, turn_inputs, turns, turns_alone}
use Rattle.mdcc_theorem_server_runs.specs.Laws.{IsRunOver}
use Rattle.mdcc_theorem_server_runs.specs.Told.{TellsMade, line_by, send_by, sends_in, server_heard_line, server_lines_in}
use Rattle.mdcc_theorem_server_runs.specs.Without.{AreAsGood, AreSeenAlike, received_in}
use Rattle.mdcc_def_server_runs.specs.Acts.{Act, appended_by, facts_appended, steps_in}
use Rattle.mdcc_def_server_runs.specs.Arrivals.{Arrival, arrival_of}
use Rattle.mdcc_def_server_runs.specs.Runs.{NodeState, run_of_inputs}
use Rattle.mdcc_def_server_runs.specs.Sending.{envelopes_sent, persist_then_send, persisted}
use Rattle.mdcc_def_server_runs.specs.Sites.{Doing, Site, after_acts, and_then, doing, idle_site}
use Rattle.mdcc_def_server_runs.specs.Turns.{Given, is_held, own_received, released, turn_inputs_taken, turn_of}
use Rattle.mdcc_def_server_runs.specs.declared.lines.ServerLine.{ServerLine}

-- ---- seen alike

pub seen_same : (did : Doing) → AreSeenAlike did did
seen_same did = record { facts = λ c. refl; sends = refl; lines = refl; steps = refl; site = refl }

pub seen_back : {one other : Doing} → AreSeenAlike one other → AreSeenAlike other one
seen_back a = record { facts = λ c. sym (a.facts c); sends = sym a.sends; lines = sym a.lines; steps = sym a.steps; site = sym a.site }

pub seen_joined : {one other third : Doing} → AreSeenAlike one other → AreSeenAlike other third → AreSeenAlike one third
seen_joined a b = record {
  facts = λ c. a.facts c ∙ b.facts c;
  sends = a.sends ∙ b.sends;
  lines = a.lines ∙ b.lines;
  steps = a.steps ∙ b.steps;
  site = a.site ∙ b.site;
}

seen_is : {one other : Doing} → one ≡ other → AreSeenAlike one other
seen_is {one = one} {other = other} same = subst (AreSeenAlike one) same (seen_same one)

-- after the same acts
pub seen_after : (acts : List Act) {one other : Doing} → AreSeenAlike one other → AreSeenAlike (after_acts acts one) (after_acts acts other)
seen_after acts {one = one} {other = other} a = record {
  facts = λ c. flat_map-append (appended_by c) acts one.acts
      ∙ (ap (λ (xs : List Fact). facts_appended c acts ++ xs) (a.facts c) ∙ sym (flat_map-append (appended_by c) acts other.acts));
  sends = flat_map-append send_by acts one.acts ∙ (ap (λ (xs : List Act). sends_in acts ++ xs) a.sends ∙ sym (flat_map-append send_by acts other.acts));
  lines = flat_map-append line_by acts one.acts ∙ (ap (λ (xs : List ServerLine). server_lines_in acts ++ xs) a.lines ∙ sym (flat_map-append line_by acts other.acts));
  steps = steps_append acts one.acts ∙ (ap (λ (n : ℕ). steps_in acts + n) a.steps ∙ sym (steps_append acts other.acts));
  site = a.site;
}

pub seen_by : {one other : Doing} {f g : ℕ → List Fact} {l m : List ServerLine} {s t : List Act} {n k : ℕ}
    → Sees one.acts f l s n → Sees other.acts g m t k → ((c : ℕ) → f c ≡ g c) → l ≡ m → s ≡ t → n ≡ k → one.site ≡ other.site → AreSeenAlike one other
seen_by a b facts lines sends steps site = record {
  facts = λ c. a.facts_are c ∙ (facts c ∙ sym (b.facts_are c));
  sends = a.sends_are ∙ (sends ∙ sym b.sends_are);
  lines = a.lines_are ∙ (lines ∙ sym b.lines_are);
  steps = a.steps_are ∙ (steps ∙ sym b.steps_are);
  site = site;
}

-- ---- what goes out before other inputs

cond_joined : (b : Bool) (xs ys : List Fact) → cond b xs [] ++ cond b ys [] ≡ cond b (xs ++ ys) []
cond_joined true xs ys = refl
cond_joined false xs ys = refl

module _ (config : Config) (site : Site) (given : List Given) where
  abbrev later : Doing
  later = quiet config (bare site) given

  abbrev out : Doing
  out = persist_then_send config site

  -- the centre after these inputs: where all was pending before, and where it went out
  abbrev whole : Site
  whole = restored site later.site

  abbrev rest : Site
  rest = with_pending later.site site.node.facts out.site.sent later.site.pending

  runs : RunsOn config (bare site) (quiet_inputs config (bare site) given) later
  runs = quiet_runs config (bare site) given

  epoch_is : epoch_of later.site.node.facts ≡ epoch_of site.node.facts
  epoch_is = ap (λ (n : NodeState). epoch_of n.facts) runs.node_is ∙ run_keeps config.cluster site.centre site.node (quiet_inputs config (bare site) given)

  first_sent : SentAlike (envelopes_sent config (persisted site) site.pending.envelopes) (envelopes_sent config (persisted whole) site.pending.envelopes)
  first_sent = sent_alike config (persisted site) (persisted whole) site.pending.envelopes (record { centre = sym runs.centre_is; epoch = sym epoch_is; sent = refl })

  abbrev between : Site
  between = (envelopes_sent config (persisted whole) site.pending.envelopes).site

  between_is : between ≡ with_sent (persisted whole) between.sent
  between_is = (sends_all site.centre config (persisted whole) site.pending.envelopes).site_is

  rest_sent : SentAlike (envelopes_sent config (persisted rest) later.site.pending.envelopes) (envelopes_sent config between later.site.pending.envelopes)
  rest_sent = sent_alike config (persisted rest) between later.site.pending.envelopes (record {
    centre = sym (ap (λ (s : Site). s.centre) between_is);
    epoch = sym (ap (λ (s : Site). epoch_of s.node.facts) between_is);
    sent = (first_sent.sites).sent;
  })

  all_sent : envelopes_sent config (persisted whole) (site.pending.envelopes ++ later.site.pending.envelopes)
      ≡ after_acts (envelopes_sent config (persisted whole) site.pending.envelopes).acts (envelopes_sent config between later.site.pending.envelopes)
  all_sent = sent_joined config (persisted whole) site.pending.envelopes later.site.pending.envelopes

  ends_alike : (persist_then_send config rest).site ≡ (persist_then_send config whole).site
  ends_alike =
      out_site config rest
      ∙ (ap (with_sent (persisted whole)) ((rest_sent.sites).sent ∙ sym (ap (λ (did : Doing). did.site.sent) all_sent))
      ∙ sym (out_site config whole))

  parts_alike : AreSeenAlike (after_acts out.acts (after_acts later.acts (persist_then_send config rest))) (after_acts later.acts (persist_then_send config whole))
  parts_alike =
      seen_by (sees_then (out_sees config site) (sees_then runs.inward (out_sees config rest))) (sees_then runs.inward (out_sees config whole))
      (λ c. ap (λ (a : ℕ). cond (site.centre == c) site.pending.facts [] ++ cond (a == c) later.site.pending.facts []) runs.centre_is
      ∙ (cond_joined (site.centre == c) site.pending.facts later.site.pending.facts
      ∙ sym (ap (λ (a : ℕ). cond (a == c) (site.pending.facts ++ later.site.pending.facts) []) runs.centre_is)))
      (ap (λ (a : ℕ). map (server_heard_line site.centre) site.pending.heard ++ map (server_heard_line a) later.site.pending.heard) runs.centre_is
      ∙ (sym (map-append (server_heard_line site.centre) site.pending.heard later.site.pending.heard)
      ∙ sym (ap (λ (a : ℕ). map (server_heard_line a) (site.pending.heard ++ later.site.pending.heard)) runs.centre_is)))
      (ap₂ (λ (xs ys : List Act). xs ++ ys) first_sent.acts rest_sent.acts ∙ sym (ap (λ (did : Doing). did.acts) all_sent))
      (omega arith)
      ends_alike

  -- with nothing pending before
  out_first : quiet config out.site given ≡ doing later.acts rest
  out_first =
      quiet_queued config given out.site
      ∙ (ap (λ (s : Site). above out.site (quiet config s given)) (ap bare (out_site config site))
      ∙ ap (λ (s : Site). doing later.acts (restored s later.site)) (out_site config site))

  pub flushed : AreSeenAlike (after_acts out.acts (and_then (quiet config out.site given) (persist_then_send config))) (and_then (quiet config site given) (persist_then_send config))
  flushed =
      seen_joined (seen_is (ap (λ (did : Doing). after_acts out.acts (and_then did (persist_then_send config))) out_first))
      (seen_joined parts_alike (seen_is (sym (ap (λ (did : Doing). and_then did (persist_then_send config)) (quiet_queued config given site)))))

-- ---- all turns

-- by whether it is held back after these inputs
released_alike : (config : Config) (site : Site) (given : List Given) (held : Bool)
    → ((next : Site) → AreSeenAlike (turns config next given) (and_then (quiet config next given) (persist_then_send config)))
    → (let out = cond held (idle_site site) (persist_then_send config site) in
    AreSeenAlike (after_acts out.acts (turns config out.site given)) (and_then (quiet config site given) (persist_then_send config)))
released_alike config site given true more = more site
released_alike config site given false more =
    let out = persist_then_send config site in seen_joined (seen_after out.acts (more out.site)) (flushed config site given)

pub grouped : (config : Config) (given : List Given) (site : Site) → AreSeenAlike (turns config site given) (and_then (quiet config site given) (persist_then_send config))
grouped config [] site = seen_same (persist_then_send config site)
grouped config (one ∷ given) site =
    let inputs = turn_inputs_taken config site one in
    let next = inputs.site in
    let out = released config (is_held one inputs) next in
    let turn = turn_of config site one in
    let alone = turns_alone config turn.site given in
    let all = turns config turn.site given in
    let more : AreSeenAlike (after_acts out.acts all) (and_then (quiet config next given) (persist_then_send config)) =
    released_alike config next given (is_held one inputs) (grouped config given) in
    seen_joined (seen_is (sym (acts_then turn.acts alone.acts (persist_then_send config alone.site)) ∙ sym (acts_then inputs.acts out.acts all)))
    (seen_joined (seen_after inputs.acts more)
    (seen_is (acts_then inputs.acts (quiet config next given).acts (persist_then_send config (quiet config next given).site))))

-- ---- inputs

own_bare : (site : Site) (gave : Option (List ℕ)) → own_inputs site gave ≡ own_inputs (bare site) gave
own_bare site None = refl
own_bare site (Some bytes) = refl

message_bare : (config : Config) (site : Site) (message : Message) → asked_message_input config site message ≡ asked_message_input config (bare site) message
message_bare config site (Message.ClientRead serial key) = refl
message_bare config site (Message.ClientBegin serial parts) = refl
message_bare config site message = refl

arrived_bare : (config : Config) (site : Site) (arrival : Arrival) → asked_input config site arrival ≡ asked_input config (bare site) arrival
arrived_bare config site Arrival.Piece = refl
arrived_bare config site Arrival.Refused = refl
arrived_bare config site (Arrival.Whole x) = message_bare config site x.message

asked_bare : (config : Config) (site : Site) (gave : Option (List ℕ)) → asked_inputs config site gave ≡ asked_inputs config (bare site) gave
asked_bare config site None = refl
asked_bare config site (Some bytes) = arrived_bare config site (arrival_of (join bytes site.asked).answer)

turn_bare : (config : Config) (site : Site) (given : Given) → turn_inputs config site given ≡ turn_inputs config (bare site) given
turn_bare config site given =
    let one = (own_received config site given.own).site in
    let other = (own_received config (bare site) given.own).site in
    let same : bare one ≡ bare other = ap (λ (did : Doing). bare did.site) (own_queued config site given.own) in
    let asked : asked_inputs config one given.asked ≡ asked_inputs config other given.asked =
    asked_bare config one given.asked ∙ (ap (λ (s : Site). asked_inputs config s given.asked) same ∙ sym (asked_bare config other given.asked)) in
    ap₂ (λ (xs ys : List Input). (xs ++ ys) ++ tick_input given) (own_bare site given.own) asked

pub taken_bare : (config : Config) (one other : Site) (given : Given) → bare one ≡ bare other
    → bare (turn_inputs_taken config one given).site ≡ bare (turn_inputs_taken config other given).site
taken_bare config one other given same =
    ap (λ (did : Doing). bare did.site) (inputs_queued config given one)
    ∙ (ap (λ (s : Site). bare (turn_inputs_taken config s given).site) same ∙ sym (ap (λ (did : Doing). bare did.site) (inputs_queued config given other)))

pub turned_bare : (config : Config) (one other : Site) (given : Given) → bare one ≡ bare other → bare (turn_of config one given).site ≡ bare (turn_inputs_taken config other given).site
turned_bare config one other given same =
    let inputs = turn_inputs_taken config one given in
    held_bare config inputs.site (is_held given inputs) ∙ taken_bare config one other given same

pub inputs_quiet : (config : Config) (given : List Given) (one other : Site) → bare one ≡ bare other → inputs_in config one given ≡ quiet_inputs config other given
inputs_quiet config [] one other same = refl
inputs_quiet config (turn ∷ given) one other same =
    let inputs : turn_inputs config one turn ≡ turn_inputs config other turn =
    turn_bare config one turn ∙ (ap (λ (s : Site). turn_inputs config s turn) same ∙ sym (turn_bare config other turn)) in
    ap₂ (λ (xs ys : List Input). xs ++ ys) inputs
    (inputs_quiet config given (turn_of config one turn).site (turn_inputs_taken config other turn).site (turned_bare config one other turn same))

-- ---- whatever waits

abbrev given_of : Option (List ℕ) × Option (List ℕ) → Given
given_of received = record { own = received.0; asked = received.1; waits = false }

quiet_by : (config : Config) (given : List Given) (site : Site) → quiet config site given ≡ quiet config site (map given_of (map received_in given))
quiet_by config [] site = refl
quiet_by config (one ∷ given) site = ap (after_acts (turn_inputs_taken config site one).acts) (quiet_by config given (turn_inputs_taken config site one).site)

quiet_inputs_by : (config : Config) (given : List Given) (site : Site) → quiet_inputs config site given ≡ quiet_inputs config site (map given_of (map received_in given))
quiet_inputs_by config [] site = refl
quiet_inputs_by config (one ∷ given) site =
    ap (λ (xs : List Input). turn_inputs config site one ++ xs) (quiet_inputs_by config given (turn_inputs_taken config site one).site)

pub grouping_alike : (config : Config) (site : Site) (given other : List Given) → map received_in other ≡ map received_in given → AreAsGood config site given other
grouping_alike config site given other same =
    let quietly : quiet config site other ≡ quiet config site given =
    quiet_by config other site
    ∙ (ap (λ (received : List (Option (List ℕ) × Option (List ℕ))). quiet config site (map given_of received)) same ∙ sym (quiet_by config given site)) in
    record {
      inputs = inputs_quiet config other site site refl
          ∙ (quiet_inputs_by config other site
          ∙ (ap (λ (received : List (Option (List ℕ) × Option (List ℕ))). quiet_inputs config site (map given_of received)) same
          ∙ (sym (quiet_inputs_by config given site) ∙ sym (inputs_quiet config given site site refl))));
      seen = seen_joined (grouped config other site)
          (seen_joined (seen_is (ap (λ (did : Doing). and_then did (persist_then_send config)) quietly)) (seen_back (grouped config given site)));
    }

-- ---- runs

pub turns_are_runs : (config : Config) (site : Site) (given : List Given) → IsRunOver config site (inputs_in config site given) (turns config site given)
turns_are_runs config site given =
    let inputs = quiet_inputs config site given in
    let tells : TellsMade config site (run_of_inputs config.cluster site.centre site.node inputs) (turns config site given) =
    tells_seen (grouped config given site) (run_tells config site (quiet_runs config site given) (run_keeps config.cluster site.centre site.node inputs)) in
    subst (λ (these : List Input). IsRunOver config site these (turns config site given)) (sym (inputs_quiet config given site site refl))
    (record { tells = tells; node = tells.node_is ∙ node_after_run config.cluster site.centre site.node inputs })
