-- What holds of a world holds after a step, a delivery, a read, a crash and a restart.
use Rattle.std.proofs.Common.{◌≡◌, ℕ, zero, suc, ◌-◌, ◌≤◌, ◌<◌, ◌+◌, ◌^◌, ◌==◌, true, false, List, [], ◌∷◌, ◌++◌, refl, sym, ap, ◌∙◌, subst, inl, inr, Option, Some, None, Result, Ok, Err, arith, length, map, get_or, nat_le, if◌then◌else◌}
use Rattle.std.specs.List.{AllByRecursion}
use Rattle.std.specs.Prelude.{set}
use Rattle.std.proofs.lemmas.Bool.{and_parts, cases_Bool, eq-eqb, eqb-true, leb-true, lt-leb}
use Rattle.std.proofs.lemmas.List.{get_or-set_other, get_or-set_same, length-set}
use Rattle.mdcc_base.specs.Key.{IsKey}
use Rattle.mdcc_base.specs.declared.key.Key.{Key}
use Rattle.mdcc_base.specs.declared.outside.Image.{Image}
use Rattle.mdcc_option.specs.declared.cluster.Cluster.{Cluster}
use Rattle.mdcc_def_protocol.specs.Belongs.{is_centre}
use Rattle.mdcc_def_rules.specs.Boot.{booted_by, is_past_cells}
use Rattle.mdcc_def_protocol.specs.Facts.{epoch_of}
use Rattle.mdcc_def_ledger.specs.Ledger.{Entry, facts_of}
use Rattle.mdcc_def_rules.specs.Steps.{NodeStep, answering, with_new}
use Rattle.mdcc_def_protocol.specs.Visible
use Rattle.mdcc_def_protocol.specs.Volatile.{Volatile, initial_volatile}
use Rattle.mdcc_def_messages.specs.Lengths.{cells_needed, log_length}
use Rattle.mdcc_def_messages.specs.WellFormed.{IsWellFormedEnvelope, IsWellFormedFact}
use Rattle.mdcc_def_messages.specs.Mailbox.{Sent, unsent, with_delivered}
use Rattle.mdcc_def_simulation.specs.State.{Happened, SimulatedSite, World, booted, centre_at, counted_event, down, with_centre}
use Rattle.mdcc_def_simulation.specs.Centres.{crash_happened, restart_happened, stop_happened}
use Rattle.mdcc_def_simulation.specs.AppliedSteps.{fact_happened, input_happened, step_at, step_happened_by, step_stopped}
use Rattle.mdcc_def_simulation.specs.Checkpoints.{is_frame_kept, striking_at, tail_after_append}
use Rattle.mdcc_def_simulation.specs.Clients.{known_of_reading, read_happened}
use Rattle.mdcc_def_simulation.specs.Limits.{most_events, most_log}
use Rattle.mdcc_def_messages.specs.declared.facts.Fact.{Fact}
use Rattle.mdcc_def_messages.specs.declared.messages.Envelope.{Envelope}
use Rattle.mdcc_def_rules.specs.declared.node.Answer.{Answer}
use Rattle.mdcc_def_rules.specs.declared.node.Input.{Input}
use Rattle.mdcc_def_rules.specs.declared.node.StepFault.{StepFault}
use Rattle.mdcc_theorem_node_steps.proofs.Roomy.{room-stays}
use Rattle.mdcc_theorem_node_steps.proofs.Answered.{answer-formed}
use Rattle.mdcc_theorem_node_steps.proofs.Booting.{boot-node, boot-reads, fits-cells}
use Rattle.mdcc_theorem_node_steps.proofs.Cells.{few-logged}
use Rattle.mdcc_theorem_node_steps.proofs.Dispatched.{node-stays, sends-formed}
use Rattle.mdcc_theorem_node_steps.proofs.Each.{each-append}
use Rattle.mdcc_theorem_node_steps.proofs.Shortness.{sends-short}
use Rattle.mdcc_theorem_node_steps.specs.NodeInvariant.{HasRoom, IsNode, accept_length, fact_payloads, FitInTurn}
use Rattle.mdcc_theorem_node_steps.specs.Inputs.{IsWellFormedInput}
use Rattle.mdcc_theorem_worlds.proofs.Within.{LeavesEpoch, made-epoch, made-stays}
use Rattle.mdcc_theorem_worlds.specs.StepSends.{GoesWithin, StaysWithin}
use Rattle.mdcc_theorem_worlds.specs.WorldInvariant.{IsWellFormedKnown, IsSentWithin, IsWorld}
use Rattle.mdcc_theorem_worlds.specs.StepEffects.{after_whole_step, ledger_with_fact, tail_with_fact, world_after_step}
use Rattle.mdcc_def_protocol.specs.Cells.{cells_held}

-- ---- centres

pub some-centre : (cluster : Cluster) (a : ℕ) → is_centre cluster a ≡ true → (1 ≤ a) × (a ≤ cluster.quorums.centres)
some-centre cluster a h =
    let both = and_parts (nat_le 1 a) (nat_le a cluster.quorums.centres) h in
    (leb-true 1 a both.0, leb-true a cluster.quorums.centres both.1)

pub site-same : (sites : List SimulatedSite) (a : ℕ) (site : SimulatedSite) → 1 ≤ a → a ≤ length sites → get_or (set sites (a - 1) site) (a - 1) booted ≡ site
site-same sites a site some few = get_or-set_same sites (a - 1) site booted (omega (some, few, arith))

pub site-other : (sites : List SimulatedSite) (a b : ℕ) (site : SimulatedSite) → 1 ≤ a → 1 ≤ b → (a == b) ≡ false
    → get_or (set sites (a - 1) site) (b - 1) booted ≡ get_or sites (b - 1) booted
site-other sites a b site some some' other =
    get_or-set_other sites (a - 1) (b - 1) site booted (λ e.
    let same : a ≡ b = omega (e, some, some', arith) in
    let clash : true ≡ false = sym (eq-eqb a b same) ∙ other in
    absurd (cc))

-- ---- facts

pub facts-with : (a b : ℕ) (o : Option Fact) (entries : List Entry)
    → facts_of (ledger_with_fact a o entries) b ≡ (if a == b then with_new (facts_of entries b) o else facts_of entries b)
facts-with a b None entries = elim (cases_Bool (a == b)) [ inl e ↦ rw e refl | inr e ↦ rw e refl ]
facts-with a b (Some fact) entries = refl

-- what holds of each centre with its facts holds where one is put, with a new fact of its own or without
pub each-put : (w : World) (a : ℕ) (site : SimulatedSite) (new : Option Fact) (P : ℕ → List Fact → SimulatedSite → Type 0) → IsWorld w → is_centre w.cluster a ≡ true
    → ((b : ℕ) → P b (facts_of w.ledger b) (centre_at w b)) → P a (with_new (facts_of w.ledger a) new) site
    → (b : ℕ) → 1 ≤ b → P b (facts_of (ledger_with_fact a new w.ledger) b) (centre_at (with_centre w a site) b)
each-put w a site new P stands centre others here b some = elim (cases_Bool (a == b)) [
  | inl e ↦
      let same : a ≡ b = eqb-true a b e in
      subst (λ (n : ℕ). P n (facts_of (ledger_with_fact a new w.ledger) n) (centre_at (with_centre w a site) n)) same (rw (facts, there) here)
  | inr e ↦
      let rest : facts_of (ledger_with_fact a new w.ledger) b ≡ facts_of w.ledger b = facts-with a b new w.ledger ∙ rw e refl in
      rw (rest, site-other w.centres a b site (some-centre w.cluster a centre).0 some e) (others b)
]
  where
    facts : facts_of (ledger_with_fact a new w.ledger) a ≡ with_new (facts_of w.ledger a) new
    facts = let same : (a == a) ≡ true = eq-eqb a a refl in facts-with a a new w.ledger ∙ rw same refl

    there : centre_at (with_centre w a site) a ≡ site
    there = site-same w.centres a site (some-centre w.cluster a centre).0 (rw stands.sites (some-centre w.cluster a centre).1)

-- ---- what happens is that the step is taken

-- where it has no fact
pub by-none : (w : World) (a : ℕ) (step : NodeStep) → step.fact ≡ None → step_happened_by w a step None ≡ after_whole_step w a step
by-none w a step e = rw e refl

-- and where no stop strikes
pub by-some : (w : World) (a : ℕ) (step : NodeStep) (fact : Fact) → step.fact ≡ Some fact → striking_at w a ≡ None → step_happened_by w a step (Some fact) ≡ after_whole_step w a step
by-some w a step fact e unstopped =
    let rest : fact_happened w a step fact None ≡ after_whole_step w a step = rw e refl in
    ap (fact_happened w a step fact) unstopped ∙ rest

-- a refusal changes nothing
pub refused-same : (w : World) (a : ℕ) (fault : StepFault) → (input_happened w a (Err fault)).world ≡ w
refused-same w a StepFault.Foreign = refl
refused-same w a (StepFault.NoRoom needed spare) = refl
refused-same w a StepFault.Crowded = refl
refused-same w a StepFault.Exhausted = refl
refused-same w a StepFault.Memory = refl

-- a node keeps its facts where it loses all else
node-lost : (cluster : Cluster) (a : ℕ) (facts : List Fact) (volatile : Volatile) → IsNode cluster a facts volatile → IsNode cluster a facts initial_volatile
node-lost cluster a facts volatile node = record {
  cluster_itself = node.cluster_itself;
  centre = node.centre;
  facts_themselves = node.facts_themselves;
  votes = record { manager = tt; recovery = tt };
  volatile_itself = record { opened = tt; votes = tt; watched = tt; leads = tt };
}

-- ---- a step

abbrev AreShort : List Envelope → Type 0
AreShort envelopes = AllByRecursion (λ e. accept_length e.message ≤ 1474618) envelopes

each-sent : (cluster : Cluster) (envelopes : List Envelope) → AllByRecursion IsWellFormedEnvelope envelopes → AllByRecursion (GoesWithin cluster) envelopes → AreShort envelopes
    → AllByRecursion (IsSentWithin cluster) (map unsent envelopes)
each-sent cluster [] h k s = tt
each-sent cluster (e ∷ es) h k s =
    (record { envelope_itself = h.0; within = k.0; short = below (accept_length e.message) s.0 }, each-sent cluster es h.1 k.1 s.1)
  where
    below : (n : ℕ) → n ≤ 1474618 → n ≤ 2097152
    below n h = omega (h, arith)

-- the centre of a step after it
abbrev pub site_with : World → ℕ → NodeStep → SimulatedSite
site_with w a step = record (centre_at w a) { tail = tail_with_fact w a step.fact; volatile = step.after }

module _ (w : World) (a : ℕ) (step : NodeStep) (stands : IsWorld w) (centre : is_centre w.cluster a ≡ true) (stays : StaysWithin w.cluster step) where
  few : a ≤ length w.centres
  few = rw stands.sites (some-centre w.cluster a centre).1

  pub site-here : centre_at (world_after_step w a step) a ≡ site_with w a step
  site-here = site-same w.centres a (site_with w a step) (some-centre w.cluster a centre).0 few

  pub site-there : (b : ℕ) → 1 ≤ b → (a == b) ≡ false → centre_at (world_after_step w a step) b ≡ centre_at w b
  site-there b some other = site-other w.centres a b (site_with w a step) (some-centre w.cluster a centre).0 some other

  pub facts-here : facts_of (world_after_step w a step).ledger a ≡ with_new (facts_of w.ledger a) step.fact
  facts-here =
      let same : (a == a) ≡ true = eq-eqb a a refl in
      facts-with a a step.fact (step.entries ++ w.ledger) ∙ rw (same, stays.entries w.ledger a) refl

  pub facts-there : (b : ℕ) → (a == b) ≡ false → facts_of (world_after_step w a step).ledger b ≡ facts_of w.ledger b
  facts-there b other = facts-with a b step.fact (step.entries ++ w.ledger) ∙ rw (other, stays.entries w.ledger b) refl

  -- what holds of each centre with its facts holds after the step
  pub each-stays : (P : ℕ → List Fact → SimulatedSite → Type 0) → ((b : ℕ) → 1 ≤ b → (a == b) ≡ false → P b (facts_of w.ledger b) (centre_at w b))
      → P a (with_new (facts_of w.ledger a) step.fact) (site_with w a step)
      → (b : ℕ) → 1 ≤ b → P b (facts_of (world_after_step w a step).ledger b) (centre_at (world_after_step w a step) b)
  each-stays P others here b some = elim (cases_Bool (a == b)) [
    | inl e ↦
        let same : a ≡ b = eqb-true a b e in
        subst (λ (n : ℕ). P n (facts_of (world_after_step w a step).ledger n) (centre_at (world_after_step w a step) n)) same (rw (facts-here, site-here) here)
    | inr e ↦ rw (facts-there b e, site-there b some e) (others b some e)
  ]

  pub world-stays : IsNode w.cluster a (with_new (facts_of w.ledger a) step.fact) step.after → LeavesEpoch step.fact → AllByRecursion IsWellFormedEnvelope step.sends → AreShort step.sends
      → log_length (with_new (facts_of w.ledger a) step.fact) ≤ most_log → FitInTurn w.cluster (with_new (facts_of w.ledger a) step.fact)
      → IsWorld (world_after_step w a step)
  world-stays node epoch formed short log cells = record {
    cluster_itself = stands.cluster_itself;
    sites = length-set w.centres (a - 1) (site_with w a step) ∙ stands.sites;
    nodes = λ b h. each-stays (λ b facts s. is_centre w.cluster b ≡ true → IsNode w.cluster b facts s.volatile) (λ b some e h. stands.nodes b h) (λ h. node) b (some-centre w.cluster b h).0 h;
    logs = λ b h. each-stays (λ b facts s. is_centre w.cluster b ≡ true → log_length facts ≤ most_log) (λ b some e h. stands.logs b h) (λ h. log) b (some-centre w.cluster b h).0 h;
    cells = λ b h. each-stays (λ b facts s. is_centre w.cluster b ≡ true → FitInTurn w.cluster facts) (λ b some e h. stands.cells b h) (λ h. cells) b (some-centre w.cluster b h).0 h;
    epochs = λ b h. each-stays (λ b facts s. is_centre w.cluster b ≡ true → epoch_of facts ≤ w.events + 1) (λ b some e h. stands.epochs b h)
        (λ h. rw (epoch (facts_of w.ledger a)) (stands.epochs a h)) b (some-centre w.cluster b h).0 h;
    sent = each-append (IsSentWithin w.cluster) w.sent (map unsent step.sends) stands.sent (each-sent w.cluster step.sends formed stays.sends short);
    reads = stands.reads;
  }

-- ---- a step whose append stops

-- a centre goes down with a new fact, or without one
down-stays : (w : World) (a tail : ℕ) (new : Option Fact) → IsWorld w → is_centre w.cluster a ≡ true → IsNode w.cluster a (with_new (facts_of w.ledger a) new) initial_volatile
    → LeavesEpoch new → log_length (with_new (facts_of w.ledger a) new) ≤ most_log → FitInTurn w.cluster (with_new (facts_of w.ledger a) new)
    → IsWorld (record (with_centre w a (down tail)) { ledger = ledger_with_fact a new w.ledger })
down-stays w a tail new stands centre node epoch log cells = record {
  cluster_itself = stands.cluster_itself;
  sites = length-set w.centres (a - 1) (down tail) ∙ stands.sites;
  nodes = λ b h. each-put w a (down tail) new (λ b facts s. is_centre w.cluster b ≡ true → IsNode w.cluster b facts s.volatile) stands centre stands.nodes (λ h. node) b (some-centre w.cluster b h).0 h;
  logs = λ b h. each-put w a (down tail) new (λ b facts s. is_centre w.cluster b ≡ true → log_length facts ≤ most_log) stands centre stands.logs (λ h. log) b (some-centre w.cluster b h).0 h;
  cells = λ b h. each-put w a (down tail) new (λ b facts s. is_centre w.cluster b ≡ true → FitInTurn w.cluster facts) stands centre stands.cells (λ h. cells) b (some-centre w.cluster b h).0 h;
  epochs = λ b h. each-put w a (down tail) new (λ b facts s. is_centre w.cluster b ≡ true → epoch_of facts ≤ w.events + 1) stands centre stands.epochs
      (λ h. rw (epoch (facts_of w.ledger a)) (stands.epochs a h)) b (some-centre w.cluster b h).0 h;
  sent = stands.sent;
  reads = stands.reads;
}

pub stopped-stays : (w : World) (a : ℕ) (fact : Fact) (stop : ℕ × Image) → IsWorld w → is_centre w.cluster a ≡ true
    → (after : Volatile) → IsNode w.cluster a (fact ∷ facts_of w.ledger a) after → LeavesEpoch (Some fact) → log_length (fact ∷ facts_of w.ledger a) ≤ most_log
    → FitInTurn w.cluster (fact ∷ facts_of w.ledger a)
    → IsWorld (step_stopped w a fact stop).world
stopped-stays w a fact stop stands centre after node epoch log cells = elim (cases_Bool (is_frame_kept stop.0 stop.1)) [
  | inl e ↦ rw e (down-stays w a _ (Some fact) stands centre (node-lost w.cluster a (fact ∷ facts_of w.ledger a) after node) epoch log cells)
  | inr e ↦
      rw e
      (down-stays w a _ None stands centre (node-lost w.cluster a (facts_of w.ledger a) (centre_at w a).volatile (stands.nodes a centre)) (λ facts. refl) (stands.logs a centre) (stands.cells a centre))
]

-- ---- an input

-- the votes that its promises report are few enough
pub log-few : (w : World) (a : ℕ) → IsWorld w → is_centre w.cluster a ≡ true → HasRoom (facts_of w.ledger a)
log-few w a stands centre = few-logged (facts_of w.ledger a) (stands.logs a centre)

-- the log of a centre stays within its limit after a step
abbrev pub KeepsLog : World → ℕ → Result NodeStep StepFault → Type 0
KeepsLog w a r = (step : NodeStep) → r ≡ Ok step → log_length (with_new (facts_of w.ledger a) step.fact) ≤ most_log

pub input-stays : (w : World) (a : ℕ) (input : Input) → KeepsLog w a (step_at w a input) → IsWorld w → is_centre w.cluster a ≡ true → IsWellFormedInput input
    → IsWorld (input_happened w a (step_at w a input)).world
input-stays w a input keeps stands centre formed = by_result (step_at w a input) refl
  where
    by_fact : (step : NodeStep) → IsNode w.cluster a (with_new (facts_of w.ledger a) step.fact) step.after → LeavesEpoch step.fact
        → log_length (with_new (facts_of w.ledger a) step.fact) ≤ most_log → FitInTurn w.cluster (with_new (facts_of w.ledger a) step.fact) → IsWorld (world_after_step w a step)
        → (o : Option Fact) → step.fact ≡ o → (stop : Option (ℕ × Image)) → striking_at w a ≡ stop → IsWorld (step_happened_by w a step o).world
    by_fact step node epoch log cells whole None e stop k = subst (λ (x : Happened). IsWorld x.world) (sym (by-none w a step e)) whole
    by_fact step node epoch log cells whole (Some fact) e None k = subst (λ (x : Happened). IsWorld x.world) (sym (by-some w a step fact e k)) whole
    by_fact step node epoch log cells whole (Some fact) e (Some stop) k =
        rw k
        (stopped-stays w a fact stop stands centre step.after (subst (λ (o : Option Fact). IsNode w.cluster a (with_new (facts_of w.ledger a) o) step.after) e node)
        (subst LeavesEpoch e epoch) (subst (λ (o : Option Fact). log_length (with_new (facts_of w.ledger a) o) ≤ most_log) e log)
        (subst (λ (o : Option Fact). FitInTurn w.cluster (with_new (facts_of w.ledger a) o)) e cells))

    by_result : (r : Result NodeStep StepFault) → step_at w a input ≡ r → IsWorld (input_happened w a r).world
    by_result (Err fault) e = rw (refused-same w a fault) stands
    by_result (Ok step) e =
        let node = stands.nodes a centre in
        let within = made-stays w.cluster a (facts_of w.ledger a) (centre_at w a).volatile input step stands.cluster_itself.quorums formed e in
        let room = log-few w a stands centre in
        let sends = sends-formed w.cluster a (facts_of w.ledger a) (centre_at w a).volatile input step node formed e room in
        let short = sends-short w.cluster a (facts_of w.ledger a) (centre_at w a).volatile input step room node formed e in
        let stays = node-stays w.cluster a (facts_of w.ledger a) (centre_at w a).volatile input step node formed e in
        let epoch = made-epoch w.cluster a (facts_of w.ledger a) (centre_at w a).volatile input step stands.cluster_itself.quorums formed e in
        let cells = room-stays w.cluster a (facts_of w.ledger a) (centre_at w a).volatile input step (stands.cells a centre) e in
        by_fact step stays epoch (keeps step e) cells (world-stays w a step stands centre within stays epoch sends short (keeps step e) cells) step.fact refl (striking_at w a) refl

-- ---- a delivery

pub delivered-sent : (cluster : Cluster) (sent : List Sent) (place : ℕ) → AllByRecursion (IsSentWithin cluster) sent → AllByRecursion (IsSentWithin cluster) (with_delivered sent place)
delivered-sent cluster [] place h = tt
delivered-sent cluster (s ∷ ss) zero h = (record { envelope_itself = h.0.envelope_itself; within = h.0.within; short = h.0.short }, h.1)
delivered-sent cluster (s ∷ ss) (suc place) h = (h.0, delivered-sent cluster ss place h.1)

pub delivered-stays : (w : World) (place events : ℕ) → w.events ≤ events → IsWorld w → IsWorld (record w { sent = with_delivered w.sent place; events = events })
delivered-stays w place events more stands = record {
  cluster_itself = stands.cluster_itself;
  sites = stands.sites;
  nodes = stands.nodes;
  logs = stands.logs;
  cells = stands.cells;
  epochs = λ a h. later (epoch_of (facts_of w.ledger a)) w.events events (stands.epochs a h) more;
  sent = delivered-sent w.cluster w.sent place stands.sent;
  reads = stands.reads;
}
  where
    later : (epoch before after : ℕ) → epoch ≤ before + 1 → before ≤ after → epoch ≤ after + 1
    later epoch before after h k = omega (h, k, arith)

-- ---- an event is counted

pub counted-stays : (w : World) → IsWorld w → IsWorld (counted_event w)
counted-stays w stands = record {
  cluster_itself = stands.cluster_itself;
  sites = stands.sites;
  nodes = stands.nodes;
  logs = stands.logs;
  cells = stands.cells;
  epochs = λ a h. later (epoch_of (facts_of w.ledger a)) w.events (stands.epochs a h);
  sent = stands.sent;
  reads = stands.reads;
}
  where
    later : (epoch events : ℕ) → epoch ≤ events + 1 → epoch ≤ events + 1 + 1
    later epoch events h = omega (h, arith)

-- ---- a read

pub read-stays : (w : World) (a : ℕ) (key : Key) → IsWorld w → is_centre w.cluster a ≡ true → IsKey key → IsWorld (read_happened w a key).world
read-stays w a key stands centre is =
    let shown = answer-formed w.cluster a (facts_of w.ledger a) (centre_at w a).volatile (Input.Read key)
    (answering (centre_at w a).volatile (Answer.Read (Visible.read (facts_of w.ledger a) key)))
    (Answer.Read (Visible.read (facts_of w.ledger a) key)) (stands.nodes a centre) is refl refl in
    record {
      cluster_itself = stands.cluster_itself;
      sites = stands.sites;
      nodes = stands.nodes;
      logs = stands.logs;
      cells = stands.cells;
      epochs = stands.epochs;
      sent = stands.sent;
      reads = each-append IsWellFormedKnown w.reads (known_of_reading key (Visible.read (facts_of w.ledger a) key) ∷ []) stands.reads
          (record { key_itself = is; token_itself = shown.0; item_itself = shown.1 }, tt);
    }

-- ---- a crash

pub crash-stays : (w : World) (a : ℕ) → IsWorld w → is_centre w.cluster a ≡ true → IsWorld (crash_happened w a).world
crash-stays w a stands centre = record {
  cluster_itself = stands.cluster_itself;
  sites = length-set w.centres (a - 1) (down (centre_at w a).tail) ∙ stands.sites;
  nodes = λ b h. each-put w a (down (centre_at w a).tail) None (λ b facts s. is_centre w.cluster b ≡ true → IsNode w.cluster b facts s.volatile) stands centre stands.nodes
      (λ h. node-lost w.cluster a (facts_of w.ledger a) (centre_at w a).volatile (stands.nodes a h)) b (some-centre w.cluster b h).0 h;
  logs = stands.logs;
  cells = stands.cells;
  epochs = stands.epochs;
  sent = stands.sent;
  reads = stands.reads;
}

-- ---- a stop is armed

pub stop-stays : (w : World) (a call : ℕ) (image : Image) → IsWorld w → is_centre w.cluster a ≡ true → IsWorld (stop_happened w a call image).world
stop-stays w a call image stands centre = record {
  cluster_itself = stands.cluster_itself;
  sites = length-set w.centres (a - 1) (record (centre_at w a) { stop = Some (call, image) }) ∙ stands.sites;
  nodes = λ b h. each-put w a (record (centre_at w a) { stop = Some (call, image) }) None (λ b facts s. is_centre w.cluster b ≡ true → IsNode w.cluster b facts s.volatile) stands centre stands.nodes
      (λ h. stands.nodes a h) b (some-centre w.cluster b h).0 h;
  logs = stands.logs;
  cells = stands.cells;
  epochs = stands.epochs;
  sent = stands.sent;
  reads = stands.reads;
}

-- ---- a restart

-- the epochs of a replay are not used up
below-last : (epoch events : ℕ) → epoch ≤ events + 1 → events < most_events → epoch < 2 ^ 32 - 1
below-last epoch events h few = omega (h, few, arith)

payloads-formed : (facts : List Fact) → AllByRecursion IsWellFormedFact facts → AllByRecursion (λ (payload : Option Fact). (fact : Fact) → payload ≡ Some fact → IsWellFormedFact fact) (fact_payloads facts)
payloads-formed [] h = tt
payloads-formed (fact ∷ facts) h =
    each-append (λ (payload : Option Fact). (fact : Fact) → payload ≡ Some fact → IsWellFormedFact fact) (fact_payloads facts) (Some fact ∷ []) (payloads-formed facts h.1)
    (λ other e. let same : fact ≡ other = cc in subst IsWellFormedFact same h.0, tt)

-- a boot where epochs and cells are left
booted-next : (cluster : Cluster) (facts : List Fact) → nat_le (2 ^ 32 - 1) (epoch_of facts) ≡ false → is_past_cells cluster facts (Fact.Booted (epoch_of facts + 1)) ≡ false
    → booted_by cluster (Ok facts) ≡ Ok (Fact.Booted (epoch_of facts + 1) ∷ facts)
booted-next cluster facts e fits = rw (e, fits) refl

restarted-node : (cluster : Cluster) (a : ℕ) (facts : List Fact) (volatile : Volatile) → IsNode cluster a facts volatile → epoch_of facts < 2 ^ 32 - 1
    → FitInTurn cluster (Fact.Booted (epoch_of facts + 1) ∷ facts) → IsNode cluster a (Fact.Booted (epoch_of facts + 1) ∷ facts) initial_volatile
restarted-node cluster a facts volatile node below cells =
    boot-node cluster a (fact_payloads facts) (Fact.Booted (epoch_of facts + 1) ∷ facts) node.cluster_itself node.centre (payloads-formed facts node.facts_themselves.well_formed)
    (boot-reads cluster facts node.facts_themselves.allowed cells.0
    ∙ booted-next cluster facts (lt-leb (2 ^ 32 - 1) (epoch_of facts) below) (fits-cells cluster facts (Fact.Booted (epoch_of facts + 1)) cells.1))

pub restart-stays : (w : World) (a : ℕ) → IsWorld w → is_centre w.cluster a ≡ true → w.events < most_events
    → log_length (Fact.Booted (epoch_of (facts_of w.ledger a) + 1) ∷ facts_of w.ledger a) ≤ most_log
    → cells_held (facts_of w.ledger a) + cells_needed (Fact.Booted (epoch_of (facts_of w.ledger a) + 1)) ≤ w.cluster.cells
    → IsWorld (restart_happened (counted_event w) a (epoch_of (facts_of w.ledger a) + 1)).world
restart-stays w a stands centre few log cells = record {
  cluster_itself = stands.cluster_itself;
  sites = length-set w.centres (a - 1) site ∙ stands.sites;
  nodes = λ b h. each-put w a site (Some fact) (λ b facts s. is_centre w.cluster b ≡ true → IsNode w.cluster b facts s.volatile) stands centre stands.nodes
      (λ h. restarted-node w.cluster a (facts_of w.ledger a) (centre_at w a).volatile (stands.nodes a h) (below-last (epoch_of (facts_of w.ledger a)) w.events (stands.epochs a h) few) (stands.cells a h, cells))
      b (some-centre w.cluster b h).0 h;
  logs = λ b h. each-put w a site (Some fact) (λ b facts s. is_centre w.cluster b ≡ true → log_length facts ≤ most_log) stands centre stands.logs (λ h. log) b (some-centre w.cluster b h).0 h;
  cells = λ b h. each-put w a site (Some fact) (λ b facts s. is_centre w.cluster b ≡ true → FitInTurn w.cluster facts) stands centre stands.cells (λ h. (stands.cells a h, cells)) b (some-centre w.cluster b h).0 h;
  epochs = λ b h. each-put w a site (Some fact) (λ b facts s. is_centre w.cluster b ≡ true → epoch_of facts ≤ w.events + 1 + 1) stands centre
      (λ b h. later (epoch_of (facts_of w.ledger b)) w.events (stands.epochs b h)) (λ h. next (epoch_of (facts_of w.ledger a)) w.events (stands.epochs a h)) b (some-centre w.cluster b h).0 h;
  sent = stands.sent;
  reads = stands.reads;
}
  where
    fact : Fact
    fact = Fact.Booted (epoch_of (facts_of w.ledger a) + 1)

    site : SimulatedSite
    site = record booted { tail = tail_after_append (centre_at w a).tail }

    later : (epoch events : ℕ) → epoch ≤ events + 1 → epoch ≤ events + 1 + 1
    later epoch events h = omega (h, arith)

    next : (epoch events : ℕ) → epoch ≤ events + 1 → epoch + 1 ≤ events + 1 + 1
    next epoch events h = omega (h, arith)
