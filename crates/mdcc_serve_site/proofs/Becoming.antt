-- What a centre becomes by what needs no disk, link or output, one part after another.
use Rattle.std.proofs.Common.{◌≡◌, ℕ, ◌+◌, List, [], ◌∷◌, ◌++◌, Bool, Option, Some, None, Result, Ok, Err, refl, sym, ◌∙◌, ap, subst, arith, append-nil, map}
use Rattle.std.proofs.lemmas.List.{map-append}
use Rattle.std.proofs.lemmas.List.Sums.{fold_push}
use Rattle.std.specs.List.{AllByRecursion}
use Rattle.std.specs.Prelude.{IfSome}
use Rattle.mdcc_base.specs.declared.identifiers.TxId.{TxId}
use Rattle.mdcc_journal.specs.Counts.{HasCounts}
use Rattle.mdcc_def_messages.specs.Spelling.{fact_bytes}
use Rattle.mdcc_def_messages.specs.declared.facts.Fact.{Fact}
use Rattle.mdcc_def_messages.specs.declared.messages.ClientAnswer.{ClientAnswer}
use Rattle.mdcc_def_messages.specs.declared.messages.Envelope.{Envelope}
use Rattle.mdcc_option.specs.declared.cluster.Cluster.{Cluster}
use Rattle.mdcc_serve_outbox.specs.Outgoing.{outgoing}
use Rattle.mdcc_serve_outbox.specs.Shows.{count_limited}
use Rattle.mdcc_serve_outbox.specs.declared.outgoing.Outgoing.{Outgoing}
use Rattle.mdcc_def_protocol.specs.Facts.{epoch_of}
use Rattle.mdcc_def_rules.specs.Steps.{NodeStep, heard_by, with_new}
use Rattle.mdcc_def_rules.specs.declared.node.Step.{Step}
use Rattle.mdcc_def_rules.specs.declared.node.StepFault.{StepFault}
use Rattle.mdcc_def_server_runs.specs.Runs.{listed}
use Rattle.mdcc_def_server_runs.specs.Sending.{answer_to}
use Rattle.mdcc_def_server_runs.specs.Sites.{Doing, Site, idle_site}
use Rattle.mdcc_def_server_runs.specs.Steps.{answer_queued, dropped, step_queued, stepped}
use Rattle.mdcc_serve_site.specs.Logs.{with_facts}
use Rattle.mdcc_serve_site.specs.Moments.{Adds}
use Rattle.mdcc_serve_site.specs.PendingBytes.{PendingBytes, pending_bytes}
use Rattle.mdcc_serve_site.specs.SiteState.{Acted, Becomes, CanBeSent, HasStepped, IsShortFact, IsSite, Makes, MakesNone, Refuses}
use Rattle.mdcc_serve_site.specs.declared.fault.ServeFault.{ServeFault}
use Rattle.mdcc_serve_site.specs.declared.site.Site.{Site as TheSite}

-- ---- counts that stand

nothing_added : (n : ℕ) → Adds 0 n n
nothing_added n = let e : n ≡ n + 0 = omega arith in ap count_limited e

once_added : (n : ℕ) → Adds 1 n (count_limited (n + 1))
once_added n = omega arith

-- its log and its counts are as before
pub record Same (held new : TheSite) : Type 0 where
  pub log : new.log ≡ held.log
  pub steps : new.steps ≡ held.steps
  pub dropped : new.dropped ≡ held.dropped
  pub lost : new.sender.lost ≡ held.sender.lost

pub same_itself : (held : TheSite) → Same held held
same_itself held = record { log = refl; steps = refl; dropped = refl; lost = refl }

pub same_then : {held mid new : TheSite} → Same held mid → Same mid new → Same held new
same_then one two = record { log = two.log ∙ one.log; steps = two.steps ∙ one.steps; dropped = two.dropped ∙ one.dropped; lost = two.lost ∙ one.lost }

pub same_node : (held new : TheSite) → new ≡ record held { node = new.node } → Same held new
same_node held new is = record { log = ap (λ (h : TheSite). h.log) is; steps = ap (λ (h : TheSite). h.steps) is; dropped = ap (λ (h : TheSite). h.dropped) is; lost = ap (λ (h : TheSite). h.sender.lost) is }

pub same_clients : (held new : TheSite) → new ≡ record held { clients = new.clients } → Same held new
same_clients held new is = record { log = ap (λ (h : TheSite). h.log) is; steps = ap (λ (h : TheSite). h.steps) is; dropped = ap (λ (h : TheSite). h.dropped) is; lost = ap (λ (h : TheSite). h.sender.lost) is }

pub same_pending : (held new : TheSite) → new ≡ record held { pending = new.pending } → Same held new
same_pending held new is = record { log = ap (λ (h : TheSite). h.log) is; steps = ap (λ (h : TheSite). h.steps) is; dropped = ap (λ (h : TheSite). h.dropped) is; lost = ap (λ (h : TheSite). h.sender.lost) is }

pub same_told : (held new : TheSite) → new ≡ record held { clients = new.clients; pending = new.pending } → Same held new
same_told held new is = record { log = ap (λ (h : TheSite). h.log) is; steps = ap (λ (h : TheSite). h.steps) is; dropped = ap (λ (h : TheSite). h.dropped) is; lost = ap (λ (h : TheSite). h.sender.lost) is }

-- ---- parts

-- there was no memory
pub lacks_memory : {held new : TheSite} → Same held new → MakesNone ServeFault.Memory held new
lacks_memory same = record { memory = refl; steps = same.steps; dropped = same.dropped; lost = same.lost }

pub lacks_by : {held new : TheSite} (fault : ServeFault) → fault ≡ ServeFault.Memory → Same held new → MakesNone fault held new
lacks_by fault is same = record { memory = is; steps = same.steps; dropped = same.dropped; lost = same.lost }

-- nothing is done
pub idle_becomes : (cluster : Cluster) (site after : Site) (held new : TheSite) → after.centre ≡ site.centre → after.logged ≡ site.logged → Same held new → IsSite cluster new after → Makes cluster site (idle_site after) held new
idle_becomes cluster site after held new centre logged same is = record {
  itself = is;
  centre = centre;
  logged = logged;
  log = same.log;
  quiet = tt;
  steps = subst (λ (n : ℕ). Adds 0 held.steps n) (sym same.steps) (nothing_added held.steps);
  dropped = subst (λ (n : ℕ). Adds 0 held.dropped n) (sym same.dropped) (nothing_added held.dropped);
  lost = same.lost;
}

-- from a centre that differs in its clients, or in the pieces of messages that came
pub becomes_from : {T : Type 0} (cluster : Cluster) (did : Doing) (r : Result T ServeFault) (site noted : Site) (held mid new : TheSite)
    → noted.centre ≡ site.centre → noted.logged ≡ site.logged → Same held mid → Becomes cluster noted did r mid new → Becomes cluster site did r held new
becomes_from cluster did (Ok done) site noted held mid new centre logged same made = record {
  itself = made.itself;
  centre = made.centre ∙ centre;
  logged = made.logged ∙ logged;
  log = made.log ∙ same.log;
  quiet = made.quiet;
  steps = rw (sym same.steps) made.steps;
  dropped = rw (sym same.dropped) made.dropped;
  lost = made.lost ∙ same.lost;
}
becomes_from cluster did (Err fault) site noted held mid new centre logged same none = record {
  memory = none.memory;
  steps = none.steps ∙ same.steps;
  dropped = none.dropped ∙ same.dropped;
  lost = none.lost ∙ same.lost;
}

-- ---- something is dropped

pub drops : (cluster : Cluster) (site : Site) (held new : TheSite) → new ≡ record held { dropped = count_limited (held.dropped + 1) } → IsSite cluster held site → Makes cluster site (dropped site) held new
drops cluster site held new is stands = subst (λ (h : TheSite). Makes cluster site (dropped site) held h) (sym is) (record {
  itself = record {
    node = stands.node;
    kept = stands.kept;
    centre = stands.centre;
    sender = stands.sender;
    clients = stands.clients;
    own = stands.own;
    asked = stands.asked;
    waits = record { pending = stands.waits.pending; all = stands.waits.all; facts = stands.waits.facts; envelopes = stands.waits.envelopes };
  };
  centre = refl;
  logged = refl;
  log = refl;
  quiet = (tt, tt);
  steps = nothing_added held.steps;
  dropped = once_added held.dropped;
  lost = refl;
})

refused_drops : (cluster : Cluster) (site : Site) (expected : Result NodeStep StepFault) (fault : StepFault) (held new : TheSite) (result : Result (Unit {0}) ServeFault) (did : Doing)
    → (result ≡ Ok tt) × (new ≡ record held { dropped = count_limited (held.dropped + 1) }) → (expected ≡ Err fault) × IsSite cluster held site → (expected ≡ Err fault → did ≡ dropped site)
    → Becomes cluster site did result held new
refused_drops cluster site expected fault held new result did refused acted is = rw (refused.0, is acted.0) (drops cluster site held new refused.1 acted.1)

-- an input that the node refused is dropped, unless there was no memory
pub refusal_becomes : (cluster : Cluster) (site : Site) (expected : Result NodeStep StepFault) (step : Step) (fault : StepFault) (held new : TheSite) (result : Result (Unit {0}) ServeFault) (did : Doing)
    → Refuses fault result held new → Acted cluster held site expected (Err fault) step → (expected ≡ Err fault → did ≡ dropped site) → Becomes cluster site did result held new
refusal_becomes cluster site expected step StepFault.Memory held new result did refused acted is = rw (refused.0, refused.1) (lacks_memory (same_itself held))
refusal_becomes cluster site expected step StepFault.Foreign held new result did refused acted is = refused_drops cluster site expected StepFault.Foreign held new result did refused acted is
refusal_becomes cluster site expected step (StepFault.NoRoom needed spare) held new result did refused acted is = refused_drops cluster site expected (StepFault.NoRoom needed spare) held new result did refused acted is
refusal_becomes cluster site expected step StepFault.Crowded held new result did refused acted is = refused_drops cluster site expected StepFault.Crowded held new result did refused acted is
refusal_becomes cluster site expected step StepFault.Exhausted held new result did refused acted is = refused_drops cluster site expected StepFault.Exhausted held new result did refused acted is

-- ---- what waits

pub each_append : {X : Type 0} (P : X → Type 0) (xs ys : List X) → AllByRecursion P xs → AllByRecursion P ys → AllByRecursion P (xs ++ ys)
each_append P [] ys h k = k
each_append P (x ∷ xs) ys h k = (h.0, each_append P xs ys h.1 k)

pub each_listed : {X : Type 0} (P : X → Type 0) (o : Option X) → IfSome o P → AllByRecursion P (listed o)
each_listed P None h = tt
each_listed P (Some x) h = (h, tt)

pub counts_of : (o : Option Fact) → IfSome o IsShortFact → IfSome o HasCounts
counts_of None short = tt
counts_of (Some fact) short = short.0

-- the newest fact is the last of those that wait
newest : (logged more facts : List Fact) (o : Option Fact) → facts ≡ with_facts logged more → with_new facts o ≡ with_facts logged (more ++ listed o)
newest logged more facts None all = all ∙ ap (with_facts logged) (sym (append-nil more))
newest logged more facts (Some fact) all = ap (λ (fs : List Fact). fact ∷ fs) all ∙ sym (fold_push (λ (before : List Fact) (f : Fact). f ∷ before) logged more fact)

pending_parts : (p q : PendingBytes) → p.payloads ≡ q.payloads → p.messages ≡ q.messages → p.heard ≡ q.heard → p ≡ q
pending_parts p q payloads messages heard =
    ap (λ (ps : List (List ℕ)). let all : PendingBytes = record { payloads = ps; messages = p.messages; heard = p.heard } in all) payloads
    ∙ (ap (λ (ms : List Outgoing). let all : PendingBytes = record { payloads = q.payloads; messages = ms; heard = p.heard } in all) messages
    ∙ ap (λ (hs : List (TxId × Bool)). let all : PendingBytes = record { payloads = q.payloads; messages = q.messages; heard = hs } in all) heard)

-- ---- a step is queued and counted

module _ (cluster : Cluster) (site : Site) (made : NodeStep) (held : TheSite) (st : HasStepped cluster held site made) (envelopes : List Envelope) (can : AllByRecursion CanBeSent envelopes) where
  abbrev all : Doing
  all = stepped (step_queued site made envelopes)

  step_makes : (pending : PendingBytes) (steps epoch : ℕ) → pending ≡ pending_bytes all.site.pending → steps ≡ count_limited (held.steps + 1) → epoch ≡ epoch_of (with_new site.node.facts made.fact)
      → Makes cluster site all held (record held { pending = pending; steps = steps; sender = record held.sender { epoch = epoch } })
  step_makes pending steps epoch waits more later = record {
    itself = record {
      node = st.node;
      kept = st.kept;
      centre = st.centre;
      sender = record { centre = st.sender.centre; epoch = later; sent = st.sender.sent };
      clients = st.clients;
      own = st.own;
      asked = st.asked;
      waits = record {
        pending = waits;
        all = newest site.logged site.pending.facts site.node.facts made.fact st.waits.all;
        facts = each_append IsShortFact site.pending.facts (listed made.fact) st.waits.facts (each_listed IsShortFact made.fact st.fact);
        envelopes = each_append CanBeSent site.pending.envelopes envelopes st.waits.envelopes can;
      };
    };
    centre = refl;
    logged = refl;
    log = refl;
    quiet = (tt, tt);
    steps = subst (λ (n : ℕ). Adds 1 held.steps n) (sym more) (once_added held.steps);
    dropped = nothing_added held.dropped;
    lost = refl;
  }

  pub step_becomes : (mid new : TheSite) → mid ≡ record held { pending = mid.pending }
      → mid.pending.payloads ≡ map fact_bytes (site.pending.facts ++ listed made.fact) → mid.pending.messages ≡ map outgoing (site.pending.envelopes ++ envelopes)
      → mid.pending.heard ≡ site.pending.heard ++ listed (heard_by made.fact)
      → new ≡ record mid { steps = new.steps; sender = record mid.sender { epoch = new.sender.epoch } } → new.steps ≡ count_limited (mid.steps + 1) → new.sender.epoch ≡ epoch_of (with_new site.node.facts made.fact)
      → Makes cluster site all held new
  step_becomes mid new queued facts messages heard counts more later =
      let steps : new.steps ≡ count_limited (held.steps + 1) = more ∙ ap (λ (h : TheSite). count_limited (h.steps + 1)) queued in
      let is : new ≡ record held { pending = mid.pending; steps = new.steps; sender = record held.sender { epoch = new.sender.epoch } } =
      counts ∙ ap (λ (h : TheSite). record h { steps = new.steps; sender = record h.sender { epoch = new.sender.epoch } }) queued in
      subst (λ (h : TheSite). Makes cluster site all held h) (sym is)
      (step_makes mid.pending new.steps new.sender.epoch (pending_parts mid.pending (pending_bytes all.site.pending) facts messages heard) steps later)

-- by what the code has of the step
pub queued_becomes : (cluster : Cluster) (site : Site) (made : NodeStep) (held : TheSite) (st : HasStepped cluster held site made) (step : Step) (envelopes : List Envelope) (mid new : TheSite)
    → step.fact ≡ made.fact → step.heard ≡ heard_by made.fact → AllByRecursion CanBeSent envelopes
    → mid ≡ record held { pending = mid.pending } → mid.pending.payloads ≡ held.pending.payloads ++ map fact_bytes (listed step.fact)
    → mid.pending.messages ≡ held.pending.messages ++ map outgoing envelopes → mid.pending.heard ≡ held.pending.heard ++ listed step.heard
    → new ≡ record mid { steps = new.steps; sender = record mid.sender { epoch = new.sender.epoch } } → new.steps ≡ count_limited (mid.steps + 1) → new.sender.epoch ≡ epoch_of (with_new site.node.facts made.fact)
    → Makes cluster site (stepped (step_queued site made envelopes)) held new
queued_becomes cluster site made held st step envelopes mid new fact heard can queued payloads messages ends counts more later =
    step_becomes cluster site made held st envelopes can mid new queued
    (payloads ∙ (ap (λ (p : PendingBytes). p.payloads ++ map fact_bytes (listed step.fact)) st.waits.pending
    ∙ (ap (λ (o : Option Fact). map fact_bytes site.pending.facts ++ map fact_bytes (listed o)) fact ∙ sym (map-append fact_bytes site.pending.facts (listed made.fact)))))
    (messages ∙ (ap (λ (p : PendingBytes). p.messages ++ map outgoing envelopes) st.waits.pending ∙ sym (map-append outgoing site.pending.envelopes envelopes)))
    (ends ∙ (ap (λ (p : PendingBytes). p.heard ++ listed step.heard) st.waits.pending ∙ ap (λ (o : Option (TxId × Bool)). site.pending.heard ++ listed o) heard))
    counts more later

-- ---- an answer is queued

pub answer_becomes : (cluster : Cluster) (site : Site) (held new : TheSite) (serial : ℕ) (answer : ClientAnswer) (x : Envelope)
    → x ≡ answer_to held.centre serial answer → new ≡ record held { pending = new.pending } → new.pending ≡ record held.pending { messages = held.pending.messages ++ outgoing x ∷ [] }
    → IsSite cluster held site → Makes cluster site (answer_queued site serial answer) held new
answer_becomes cluster site held new serial answer x is only pends stands =
    subst (λ (h : TheSite). Makes cluster site (answer_queued site serial answer) held h) (sym only) (record {
      itself = record {
        node = stands.node;
        kept = stands.kept;
        centre = stands.centre;
        sender = record { centre = stands.sender.centre; epoch = stands.sender.epoch; sent = stands.sender.sent };
        clients = stands.clients;
        own = stands.own;
        asked = stands.asked;
        waits = record {
          pending = pends ∙ pending_parts (record held.pending { messages = held.pending.messages ++ outgoing x ∷ [] }) (pending_bytes (answer_queued site serial answer).site.pending) payloads messages heard;
          all = stands.waits.all ∙ ap (with_facts site.logged) (sym (append-nil site.pending.facts));
          facts = each_append IsShortFact site.pending.facts [] stands.waits.facts tt;
          envelopes = each_append CanBeSent site.pending.envelopes (answer_to site.centre serial answer ∷ []) stands.waits.envelopes (tt, tt);
        };
      };
      centre = refl;
      logged = refl;
      log = refl;
      quiet = tt;
      steps = nothing_added held.steps;
      dropped = nothing_added held.dropped;
      lost = refl;
    })
  where
    payloads : held.pending.payloads ≡ map fact_bytes (site.pending.facts ++ [])
    payloads = ap (λ (p : PendingBytes). p.payloads) stands.waits.pending ∙ ap (map fact_bytes) (sym (append-nil site.pending.facts))

    messages : held.pending.messages ++ outgoing x ∷ [] ≡ map outgoing (site.pending.envelopes ++ answer_to site.centre serial answer ∷ [])
    messages = ap (λ (p : PendingBytes). p.messages ++ outgoing x ∷ []) stands.waits.pending
        ∙ (ap (λ (e : Envelope). map outgoing site.pending.envelopes ++ outgoing e ∷ []) (is ∙ ap (λ (n : ℕ). answer_to n serial answer) stands.centre)
        ∙ sym (map-append outgoing site.pending.envelopes (answer_to site.centre serial answer ∷ [])))

    heard : held.pending.heard ≡ site.pending.heard ++ []
    heard = ap (λ (p : PendingBytes). p.heard) stands.waits.pending ∙ sym (append-nil site.pending.heard)
