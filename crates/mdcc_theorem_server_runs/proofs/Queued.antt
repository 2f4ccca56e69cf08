-- What the inputs of a centre make of it depends on nothing that is pending, sent or logged; what they leave comes after what is pending.
use Rattle.std.proofs.Common.{◌≡◌, ℕ, ◌+◌, Bool, true, false, cond, List, [], ◌∷◌, ◌++◌, Option, Some, None, Result, Ok, Err, refl, sym, ◌∙◌, ap, append-nil, append_assoc}
use Rattle.mdcc_base.specs.declared.identifiers.TxId.{TxId}
use Rattle.mdcc_base.specs.declared.key.Key.{Key}
use Rattle.mdcc_config.specs.declared.config.Config.{Config}
use Rattle.mdcc_frag.specs.Joining.{join}
use Rattle.mdcc_def_messages.specs.declared.facts.Fact.{Fact}
use Rattle.mdcc_def_messages.specs.declared.messages.Envelope.{Envelope}
use Rattle.mdcc_def_messages.specs.declared.messages.Message.{Message}
use Rattle.mdcc_option.specs.Transaction.{transaction_of}
use Rattle.mdcc_option.specs.declared.faults.DraftFault.{DraftFault}
use Rattle.mdcc_option.specs.declared.items.Part.{Part}
use Rattle.mdcc_def_rules.specs.Steps.{NodeStep}
use Rattle.mdcc_def_rules.specs.declared.node.Answer.{Answer}
use Rattle.mdcc_def_rules.specs.declared.node.Input.{Input}
use Rattle.mdcc_def_rules.specs.declared.node.StepFault.{StepFault}
use Rattle.mdcc_def_server_runs.specs.Acts.{Act}
use Rattle.mdcc_def_server_runs.specs.Arrivals.{Arrival, arrival_of, is_not_taken}
use Rattle.mdcc_def_server_runs.specs.Clients.{begun_for}
use Rattle.mdcc_def_server_runs.specs.Runs.{listed, step_on}
use Rattle.mdcc_def_server_runs.specs.Sites.{Doing, Pending, Site, after_acts, and_then, doing, idle_site, nothing_pending}
use Rattle.mdcc_def_server_runs.specs.Steps.{begin_made, begin_noted, begin_taken_by, begin_told, draft_taken, dropped, input_made, input_taken, read_made, step_queued, stepped}
use Rattle.mdcc_def_server_runs.specs.Turns.{Given, asked_arrived, asked_message, asked_received, asked_taken, is_silent, own_arrived, own_message, own_received, own_taken, ticked, turn_inputs_taken}

-- ---- pending lists

abbrev pub pending_of : List Fact → List Envelope → List (TxId × Bool) → Pending
pending_of facts envelopes heard = record { facts = facts; envelopes = envelopes; heard = heard }

-- these, and then those
abbrev pub both_pending : Pending → Pending → Pending
both_pending first next = pending_of (first.facts ++ next.facts) (first.envelopes ++ next.envelopes) (first.heard ++ next.heard)

pub pendings_are : (f g : List Fact) (d e : List Envelope) (h k : List (TxId × Bool)) → f ≡ g → d ≡ e → h ≡ k → pending_of f d h ≡ pending_of g e k
pendings_are f g d e h k a b c = cc

pub pending_nil : (p : Pending) → p ≡ both_pending p nothing_pending
pending_nil p =
    pendings_are p.facts (p.facts ++ []) p.envelopes (p.envelopes ++ []) p.heard (p.heard ++ [])
    (sym (append-nil p.facts)) (sym (append-nil p.envelopes)) (sym (append-nil p.heard))

pub pending_assoc : (p q r : Pending) → both_pending (both_pending p q) r ≡ both_pending p (both_pending q r)
pending_assoc p q r =
    pendings_are ((p.facts ++ q.facts) ++ r.facts) (p.facts ++ (q.facts ++ r.facts)) ((p.envelopes ++ q.envelopes) ++ r.envelopes) (p.envelopes ++ (q.envelopes ++ r.envelopes))
    ((p.heard ++ q.heard) ++ r.heard) (p.heard ++ (q.heard ++ r.heard))
    (append_assoc p.facts q.facts r.facts) (append_assoc p.envelopes q.envelopes r.envelopes) (append_assoc p.heard q.heard r.heard)

-- ---- centres

-- with nothing pending, sent or logged
abbrev pub bare : Site → Site
bare site = record site { logged = []; sent = 0; pending = nothing_pending }

abbrev pub with_pending : Site → List Fact → ℕ → Pending → Site
with_pending site logged sent pending = record site { logged = logged; sent = sent; pending = pending }

-- with what was logged, sent and pending at another before
abbrev pub restored : Site → Site → Site
restored before site = with_pending site before.logged before.sent (both_pending before.pending site.pending)

abbrev pub above : Site → Doing → Doing
above before did = doing did.acts (restored before did.site)

pub site_above : (site : Site) → site ≡ restored site (bare site)
site_above site = ap (λ (p : Pending). with_pending site site.logged site.sent p) (pending_nil site.pending)

pub above_above : (before : Site) (did : Doing) (next : Doing) → above (restored before did.site) next ≡ above before (above did.site next)
above_above before did next =
    ap (λ (p : Pending). doing next.acts (with_pending next.site before.logged before.sent p)) (pending_assoc before.pending did.site.pending next.site.pending)

pub queued_then : (site : Site) (first : Doing) (other : Doing) (then : Site → Doing) → first ≡ above site other
    → ((next : Site) → then next ≡ above next (then (bare next))) → and_then first then ≡ above site (and_then other then)
queued_then site first other then one two =
    ap (λ (did : Doing). and_then did then) one
    ∙ (ap (after_acts other.acts) (two (restored site other.site))
    ∙ (ap (after_acts other.acts) (above_above site other (then (bare other.site)))
    ∙ ap (λ (did : Doing). above site (after_acts other.acts did)) (sym (two other.site))))

-- ---- steps

dropped_queued : (site : Site) → dropped site ≡ above site (dropped (bare site))
dropped_queued site = ap (doing (Act.Dropped ∷ [])) (site_above site)

idle_queued : (site : Site) → idle_site site ≡ above site (idle_site (bare site))
idle_queued site = ap (doing []) (site_above site)

made_queued : (site : Site) (made : Result NodeStep StepFault) → input_made site made ≡ above site (input_made (bare site) made)
made_queued site (Err fault) = dropped_queued site
made_queued site (Ok step) = refl

read_queued : (site : Site) (serial : ℕ) (key : Key) (made : Result NodeStep StepFault) → read_made site serial key made ≡ above site (read_made (bare site) serial key made)
read_queued site serial key (Err fault) = dropped_queued site
read_queued site serial key (Ok step) = refl

noted_queued : (site : Site) (serial : ℕ) (step : NodeStep) (envelopes : List Envelope) (answer : Option Answer)
    → stepped (step_queued (begin_noted site serial answer) step envelopes) ≡ above site (stepped (step_queued (begin_noted (bare site) serial answer) step envelopes))
noted_queued site serial step envelopes None = refl
noted_queued site serial step envelopes (Some (Answer.Begun tx)) = refl
noted_queued site serial step envelopes (Some (Answer.Refused key fault)) = refl
noted_queued site serial step envelopes (Some (Answer.Read reading)) = refl

begin_queued : (site : Site) (serial : ℕ) (made : Result NodeStep StepFault) → begin_made site serial made ≡ above site (begin_made (bare site) serial made)
begin_queued site serial (Err fault) = dropped_queued site
begin_queued site serial (Ok step) =
    noted_queued site serial step (step.sends ++ listed (begin_told site.centre serial step.answer)) step.answer

draft_queued : (config : Config) (site : Site) (serial : ℕ) (draft : Result (List Part) DraftFault)
    → draft_taken config site serial draft ≡ above site (draft_taken config (bare site) serial draft)
draft_queued config site serial (Err fault) = refl
draft_queued config site serial (Ok parts) = begin_queued site serial (step_on config.cluster site.centre site.node (Input.Begin parts))

begin_by_queued : (config : Config) (site : Site) (serial : ℕ) (parts : List Part) (known : Option TxId)
    → begin_taken_by config site serial parts known ≡ above site (begin_taken_by config (bare site) serial parts known)
begin_by_queued config site serial parts (Some tx) = refl
begin_by_queued config site serial parts None = draft_queued config site serial (transaction_of config.cluster.schema parts)

input_queued : (config : Config) (site : Site) (input : Input) → input_taken config site input ≡ above site (input_taken config (bare site) input)
input_queued config site input = made_queued site (step_on config.cluster site.centre site.node input)

-- ---- receives

own_message_queued : (config : Config) (site : Site) (x : Envelope) → own_message config site x ≡ above site (own_message config (bare site) x)
own_message_queued config site x = by_kind (is_not_taken x.message)
  where
    by_kind : (b : Bool) → cond b (dropped site) (input_taken config site (Input.Message x)) ≡ above site (cond b (dropped (bare site)) (input_taken config (bare site) (Input.Message x)))
    by_kind true = dropped_queued site
    by_kind false = input_queued config site (Input.Message x)

own_arrived_queued : (config : Config) (site : Site) (arrival : Arrival) → own_arrived config site arrival ≡ above site (own_arrived config (bare site) arrival)
own_arrived_queued config site Arrival.Piece = idle_queued site
own_arrived_queued config site Arrival.Refused = dropped_queued site
own_arrived_queued config site (Arrival.Whole x) = own_message_queued config site x

own_taken_queued : (config : Config) (site : Site) (gave : Option (List ℕ)) → own_taken config site gave ≡ above site (own_taken config (bare site) gave)
own_taken_queued config site None = idle_queued site
own_taken_queued config site (Some bytes) =
    own_arrived_queued config (record site { own = (join bytes site.own).entries }) (arrival_of (join bytes site.own).answer)

pub own_queued : (config : Config) (site : Site) (gave : Option (List ℕ)) → own_received config site gave ≡ above site (own_received config (bare site) gave)
own_queued config site gave = ap (after_acts (Act.Receive site.centre gave ∷ [])) (own_taken_queued config site gave)

asked_message_queued : (config : Config) (site : Site) (message : Message) → asked_message config site message ≡ above site (asked_message config (bare site) message)
asked_message_queued config site (Message.ClientRead serial key) = read_queued site serial key (step_on config.cluster site.centre site.node (Input.Read key))
asked_message_queued config site (Message.ClientBegin serial parts) = begin_by_queued config site serial parts (begun_for site.clients serial)
asked_message_queued config site message = dropped_queued site

asked_arrived_queued : (config : Config) (site : Site) (arrival : Arrival) → asked_arrived config site arrival ≡ above site (asked_arrived config (bare site) arrival)
asked_arrived_queued config site Arrival.Piece = idle_queued site
asked_arrived_queued config site Arrival.Refused = dropped_queued site
asked_arrived_queued config site (Arrival.Whole x) = asked_message_queued config site x.message

asked_taken_queued : (config : Config) (site : Site) (gave : Option (List ℕ)) → asked_taken config site gave ≡ above site (asked_taken config (bare site) gave)
asked_taken_queued config site None = idle_queued site
asked_taken_queued config site (Some bytes) =
    asked_arrived_queued config (record site { asked = (join bytes site.asked).entries }) (arrival_of (join bytes site.asked).answer)

asked_queued : (config : Config) (site : Site) (gave : Option (List ℕ)) → asked_received config site gave ≡ above site (asked_received config (bare site) gave)
asked_queued config site gave = ap (after_acts (Act.Receive (site.centre + 16) gave ∷ [])) (asked_taken_queued config site gave)

-- ---- turns

ticked_queued : (config : Config) (given : Given) (site : Site) → ticked config given site ≡ above site (ticked config given (bare site))
ticked_queued config given site = by_silence (is_silent given)
  where
    by_silence : (b : Bool) → cond b (input_taken config site Input.Tick) (idle_site site) ≡ above site (cond b (input_taken config (bare site) Input.Tick) (idle_site (bare site)))
    by_silence true = input_queued config site Input.Tick
    by_silence false = idle_queued site

pub inputs_queued : (config : Config) (given : Given) (site : Site) → turn_inputs_taken config site given ≡ above site (turn_inputs_taken config (bare site) given)
inputs_queued config given site =
    let asked : Site → Doing = λ next. asked_received config next given.asked in
    queued_then site (and_then (own_received config site given.own) asked) (and_then (own_received config (bare site) given.own) asked) (ticked config given)
    (queued_then site (own_received config site given.own) (own_received config (bare site) given.own) asked (own_queued config site given.own)
    (λ next. asked_queued config next given.asked))
    (ticked_queued config given)

-- what all turns make of the centre where nothing goes out
abbrev pub quiet : Config → Site → List Given → Doing
quiet config site [] = idle_site site
quiet config site (given ∷ more) = and_then (turn_inputs_taken config site given) (λ next. quiet config next more)

pub quiet_queued : (config : Config) (given : List Given) (site : Site) → quiet config site given ≡ above site (quiet config (bare site) given)
quiet_queued config [] site = idle_queued site
quiet_queued config (one ∷ given) site =
    queued_then site (turn_inputs_taken config site one) (turn_inputs_taken config (bare site) one) (λ next. quiet config next given) (inputs_queued config one site)
    (quiet_queued config given)
