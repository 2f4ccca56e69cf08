-- No round in a trace within its events reaches 2^32 - 1.
use Rattle.std.proofs.Common.{Bool, Err, List, None, Ok, Option, Result, Some, [], ap, arith, cond, false, get_or, inl, inr, max, refl, set, subst, suc, sym, true, zero, ℕ, ◌*◌, ◌++◌, ◌+◌, ◌-◌, ◌<◌, ◌==◌, ◌^◌, ◌∙◌, ◌∷◌, ◌≡◌, ◌≤◌, ◌⊎◌}
use Rattle.std.specs.Prelude.{map, nat_le, ⊤}
use Rattle.std.proofs.lemmas.Bool.{cases_Bool, leb-false, leb-true}
use Rattle.std.proofs.lemmas.Nat.{mul-le}
use Rattle.mdcc_base.specs.AreQuorums.{AreQuorums}
use Rattle.mdcc_base.specs.Counts.{number_of}
use Rattle.mdcc_base.specs.declared.key.Key.{Key}
use Rattle.mdcc_base.specs.declared.outside.Image.{Image}
use Rattle.mdcc_option.specs.declared.choices.Choice.{Choice}
use Rattle.mdcc_option.specs.declared.cluster.Cluster.{Cluster}
use Rattle.mdcc_option.specs.declared.faults.BeginFault.{BeginFault}
use Rattle.mdcc_option.specs.declared.items.Part.{Part}
use Rattle.mdcc_def_protocol.specs.Belongs.{is_centre}
use Rattle.mdcc_def_protocol.specs.Facts.{epoch_of, promise_of}
use Rattle.mdcc_def_protocol.specs.IsCluster.{IsCluster}
use Rattle.mdcc_def_protocol.specs.Leader.{next_round}
use Rattle.mdcc_def_ledger.specs.Ledger.{Added, Entry, facts_of}
use Rattle.mdcc_def_protocol.specs.Manager.{begin_with, begin_fault}
use Rattle.mdcc_def_rules.specs.ManagerRules.{begin_step_by, proposals_sent}
use Rattle.mdcc_def_rules.specs.Messages.{to_all}
use Rattle.mdcc_def_rules.specs.Node.{checked_for_room, message_step}
use Rattle.mdcc_def_rules.specs.Steps.{NodeStep}
use Rattle.mdcc_def_protocol.specs.Volatile.{Volatile, number_kept_at}
use Rattle.mdcc_def_messages.specs.Mailbox.{Sent, unsent}
use Rattle.mdcc_def_simulation.specs.State.{SimulatedSite, World, booted, booted_to, centre_at, down, first_world}
use Rattle.mdcc_def_simulation.specs.AppliedSteps.{fact_happened, input_happened, step_at, step_happened_by, step_stopped}
use Rattle.mdcc_def_simulation.specs.Checkpoints.{is_frame_kept, striking_at, tail_after_append}
use Rattle.mdcc_def_simulation.specs.Centres.{restart_happened}
use Rattle.mdcc_def_simulation.specs.Runs.{run_of}
use Rattle.mdcc_def_language.specs.declared.events.Event.{Event}
use Rattle.mdcc_def_messages.specs.declared.facts.Fact.{Fact}
use Rattle.mdcc_def_messages.specs.declared.messages.Envelope.{Envelope}
use Rattle.mdcc_def_messages.specs.declared.messages.Message.{Message}
use Rattle.mdcc_def_rules.specs.declared.node.Input.{Input}
use Rattle.mdcc_def_rules.specs.declared.node.StepFault.{StepFault}
use Rattle.mdcc_base.specs.Quorums.{all_centres}
use Rattle.mdcc_theorem_trace_states.specs.Invariant.{Holds}
use Rattle.mdcc_theorem_trace_states.specs.Sound.{IsSound}
use Rattle.mdcc_theorem_trace_states.specs.Steps.{IsUp}
use Rattle.mdcc_theorem_trace_states.specs.Words.{Each, In}
use Rattle.mdcc_theorem_trace_states.proofs.Boots.{replicated}
use Rattle.mdcc_theorem_trace_states.proofs.Events.{delivered-sent, is-up}
use Rattle.mdcc_theorem_trace_states.proofs.Lists.{Each-append, Each-like, Each-map}
use Rattle.mdcc_theorem_trace_states.proofs.Walk.{bounds, centre-set}
use Rattle.mdcc_theorem_trace_rules.proofs.Begins.{Each-flat_map}
use Rattle.mdcc_theorem_trace.proofs.Laws.{all-good}
use Rattle.mdcc_theorem_trace_limits.proofs.RoundMessages.{IsRoundResult, IsRoundStep, checked-fine}
use Rattle.mdcc_theorem_trace_limits.proofs.RoundSteps.{AreRoundFacts, AreRoundSends, IsRound, IsRoundFact, IsRoundLeader, each-round, facts-round, leader-more, round-more}
use Rattle.mdcc_theorem_trace_limits.proofs.RoundTicks.{tick-round}
use Rattle.mdcc_theorem_trace_limits.proofs.Short.{IsShort, short-walk}
use Rattle.mdcc_theorem_trace_limits.proofs.Small.{is_begin, opened_in}
use Rattle.mdcc_theorem_trace_limits.proofs.Walks.{IsReached, IsSentInput, IsWalk, envelopes, others_in, ticks_in, trace-reached}
use Rattle.mdcc_def_rules.specs.Here.{here}

-- the rounds of a key within a number: in facts, at leaders, and in messages
pub record IsRoundWorld (key : Key) (r : ℕ) (w : World) : Type 0 where
  pub facts : (a : ℕ) → AreRoundFacts key r (facts_of w.ledger a)
  pub leaders : (b : ℕ) → is_centre w.cluster b ≡ true → IsRoundLeader key r (centre_at w b).volatile.leader
  pub sent : Each (λ (s : Sent). IsRound key r s.envelope.message) w.sent

-- what a round can be after so many ticks and other steps
abbrev pub most_rounds : ℕ → ℕ → ℕ
most_rounds t d = t * (256 + d) + d

pub record AreCalm (t d : ℕ) (w : World) : Type 0 where
  pub short : IsShort t d w
  pub rounds : (key : Key) → IsRoundWorld key (most_rounds t d) w

-- an input names no ballot of the key above the round
abbrev pub IsRoundInput : Key → ℕ → Input → Type 0
IsRoundInput key r (Input.Message envelope) = IsRound key r envelope.message
IsRoundInput key r _ = ⊤

-- ---- one centre changes

leaders-set : (key : Key) (r : ℕ) (w : World) (a : ℕ) (c : SimulatedSite) → Holds IsSound w.cluster w → is_centre w.cluster a ≡ true → IsRoundLeader key r c.volatile.leader → ((b : ℕ) → is_centre w.cluster b ≡ true → IsRoundLeader key r (centre_at w b).volatile.leader) →
    (b : ℕ) → is_centre w.cluster b ≡ true → IsRoundLeader key r (get_or (set w.centres (a - 1) c) (b - 1) booted).volatile.leader
leaders-set key r w a c h here k all b there =
    let at = centre-set w.centres a b w.cluster.quorums.centres c (bounds w.cluster a here) (bounds w.cluster b there).0 h.size in
    elim (cases_Bool (a == b)) [
      | inl e ↦ let g : get_or (set w.centres (a - 1) c) (b - 1) booted ≡ c = at ∙ rw e refl in subst (λ (z : SimulatedSite). IsRoundLeader key r z.volatile.leader) (sym g) k
      | inr e ↦ let g : get_or (set w.centres (a - 1) c) (b - 1) booted ≡ get_or w.centres (b - 1) booted = at ∙ rw e refl in subst (λ (z : SimulatedSite). IsRoundLeader key r z.volatile.leader) (sym g) (all b there)
    ]

fact-added : (key : Key) (r a : ℕ) (f : Fact) (es : List Entry) → ((b : ℕ) → AreRoundFacts key r (facts_of es b)) → IsRoundFact key r f → (b : ℕ) → AreRoundFacts key r (facts_of (Added a f ∷ es) b)
fact-added key r a f es h g b = elim (cases_Bool (a == b)) [ inl e ↦ rw e (facts-round key r f (facts_of es b) (h b) g) | inr e ↦ rw e (h b) ]

world-more : (key : Key) (r s : ℕ) (w : World) → r ≤ s → IsRoundWorld key r w → IsRoundWorld key s w
world-more key r s w h g = record {
  facts = λ a v. let x = g.facts a v in omega (arith, h, x);
  leaders = λ b there. leader-more key r s (centre_at w b).volatile.leader h (g.leaders b there);
  sent = Each-like (λ (x : Sent). IsRound key r x.envelope.message) (λ (x : Sent). IsRound key s x.envelope.message) w.sent (λ x i. round-more key r s x.envelope.message h i) g.sent;
}

nothing-known : (key : Key) (r : ℕ) → IsRoundLeader key r (record { leads = []; refused_rounds = []; last_rounds = [] })
nothing-known key r = record { refused = omega arith; last = omega arith; leads = tt }

-- ---- steps

happened-round : (key : Key) (r : ℕ) (w : World) (a : ℕ) (step : NodeStep) → Holds IsSound w.cluster w → is_centre w.cluster a ≡ true → IsRoundWorld key r w → IsRoundStep key r step → IsRoundWorld key r (step_happened_by w a step step.fact).world
happened-round key r w a step h here g s = by_fact step.fact refl
  where
    plain : (b : ℕ) → AreRoundFacts key r (facts_of (step.entries ++ w.ledger) b)
    plain b = subst (λ z. AreRoundFacts key r z) (sym (s.plain w.ledger b)) (g.facts b)

    sent : Each (λ (x : Sent). IsRound key r x.envelope.message) (w.sent ++ map unsent step.sends)
    sent = Each-append (λ (x : Sent). IsRound key r x.envelope.message) w.sent (map unsent step.sends) g.sent (Each-map (λ (x : Sent). IsRound key r x.envelope.message) unsent step.sends s.sends)

    stopped : (fact : Fact) (stop : ℕ × Image) → IsRoundFact key r fact → IsRoundWorld key r (step_stopped w a fact stop).world
    stopped fact stop f =
        elim (cases_Bool (is_frame_kept stop.0 stop.1)) [
          | inl e ↦ rw e (record { facts = fact-added key r a fact w.ledger g.facts f; leaders = leaders-set key r w a (down _) h here (nothing-known key r) g.leaders; sent = g.sent })
          | inr e ↦ rw e (record { facts = g.facts; leaders = leaders-set key r w a (down _) h here (nothing-known key r) g.leaders; sent = g.sent })
        ]

    by_stop : (fact : Fact) (o : Option (ℕ × Image)) → IsRoundFact key r fact → IsRoundWorld key r (fact_happened w a step fact o).world
    by_stop fact None f = record { facts = fact-added key r a fact (step.entries ++ w.ledger) plain f; leaders = leaders-set key r w a _ h here s.leader g.leaders; sent = sent }
    by_stop fact (Some stop) f = stopped fact stop f

    by_fact : (o : Option Fact) → step.fact ≡ o → IsRoundWorld key r (step_happened_by w a step o).world
    by_fact None e = record { facts = plain; leaders = leaders-set key r w a _ h here s.leader g.leaders; sent = sent }
    by_fact (Some fact) e = by_stop fact (striking_at w a) (s.fact fact e)

input-round : (key : Key) (r : ℕ) (w : World) (a : ℕ) (x : Result NodeStep StepFault) → Holds IsSound w.cluster w → is_centre w.cluster a ≡ true → IsRoundWorld key r w → IsRoundResult key r x → IsRoundWorld key r (input_happened w a x).world
input-round key r w a (Ok step) h here g s = happened-round key r w a step h here g s
input-round key r w a (Err (StepFault.NoRoom needed spare)) h here g s = g
input-round key r w a (Err StepFault.Foreign) h here g s = g
input-round key r w a (Err StepFault.Crowded) h here g s = g
input-round key r w a (Err StepFault.Exhausted) h here g s = g
input-round key r w a (Err StepFault.Memory) h here g s = g

message-round : (key : Key) (r : ℕ) (w : World) (a : ℕ) (envelope : Envelope) → AreRoundFacts key r (facts_of w.ledger a) → IsRoundLeader key r (centre_at w a).volatile.leader → IsRound key r envelope.message →
    IsRoundResult key (r + 1) (step_at w a (Input.Message envelope))
message-round key r w a envelope f l m = pick _
  where
    pick : (b : Bool) → IsRoundResult key (r + 1) (cond b (checked_for_room w.cluster (facts_of w.ledger a) (message_step (here w.cluster a (facts_of w.ledger a)) (centre_at w a).volatile envelope.from envelope.message)) (Err StepFault.Foreign))
    pick true = checked-fine key r w.cluster a (facts_of w.ledger a) (centre_at w a).volatile envelope.from envelope.message f l m
    pick false = tt

begin-round : (key : Key) (r : ℕ) (cluster : Cluster) (me : ℕ) (facts : List Fact) (volatile : Volatile) (parts : List Part) → IsRoundLeader key r volatile.leader →
    IsRoundStep key r (begin_step_by (here cluster me facts) volatile parts (begin_with me (epoch_of facts) volatile.manager parts (begin_fault facts volatile.manager parts)))
begin-round key r cluster me facts volatile parts l = by_fault (begin_fault facts volatile.manager parts)
  where
    sends : (choices : List Choice) → AreRoundSends key r (proposals_sent cluster.quorums me choices)
    sends choices = Each-flat_map (λ (env : Envelope). IsRound key r env.message) (λ (choice : Choice). to_all cluster.quorums me (Message.Propose choice)) choices (λ c i. each-round key r me (Message.Propose c) (all_centres cluster.quorums) tt)

    by_fault : (o : Option (Key × BeginFault)) → IsRoundStep key r (begin_step_by (here cluster me facts) volatile parts (begin_with me (epoch_of facts) volatile.manager parts o))
    by_fault (Some fault) = record { fact = λ f e. absurd (cc); leader = l; sends = tt; plain = λ es a. refl }
    by_fault None = record { fact = λ f e. absurd (cc); leader = l; sends = sends _; plain = λ es a. refl }

-- ---- the walk

calm-tick : (t d o b : ℕ) → o ≤ 256 → b ≤ d → most_rounds t d + (o + b) ≤ most_rounds (t + 1) (d + 0)
calm-tick t d o b few begun = omega (arith, few, begun, more, same)
  where
    more : (t + 1) * (256 + d) ≡ t * (256 + d) + (256 + d)
    more = grind arith

    same : (t + 1) * (256 + (d + 0)) ≡ (t + 1) * (256 + d)
    same = ap (λ z. (t + 1) * (256 + z)) (zero-more d)
      where
        zero-more : (d : ℕ) → d + 0 ≡ d
        zero-more d = omega arith

calm-other : (t d : ℕ) → most_rounds t d + 1 ≤ most_rounds (t + 0) (d + 1)
calm-other t d = let m = mul-le t (256 + d) (t + 0) (256 + (d + 1)) (omega arith) (omega arith) in omega (arith, m)

calm-less : {x y : ℕ} → x + 1 ≤ y → x ≤ y
calm-less h = omega (arith, h)

calm-restart : (t d : ℕ) → most_rounds t d ≤ most_rounds t (d + 1)
calm-restart t d = let m = mul-le t (256 + d) t (256 + (d + 1)) (omega arith) (omega arith) in omega (arith, m)

calm-walk : (cluster : Cluster) → AreQuorums cluster.quorums → IsWalk cluster AreCalm
calm-walk cluster sizes = record {
  first = record {
    short = short.first;
    rounds = λ key. record {
      facts = λ a. start cluster.quorums.centres key a;
      leaders = λ b here. subst (λ (z : SimulatedSite). IsRoundLeader key 0 z.volatile.leader) (sym (replicated cluster.quorums.centres (b - 1))) (nothing-known key 0);
      sent = tt;
    };
  };
  delivered_at = λ t d w n m p. record {
    short = short.delivered_at t d w n m p.short;
    rounds = λ key. record { facts = (p.rounds key).facts; leaders = (p.rounds key).leaders; sent = delivered-sent (λ (env : Envelope). IsRound key (most_rounds t d) env.message) w.sent n (p.rounds key).sent };
  };
  events = λ t d w m p. record { short = short.events t d w m p.short; rounds = λ key. record { facts = (p.rounds key).facts; leaders = (p.rounds key).leaders; sent = (p.rounds key).sent } };
  reads = λ t d w rs p. record { short = short.reads t d w rs p.short; rounds = λ key. record { facts = (p.rounds key).facts; leaders = (p.rounds key).leaders; sent = (p.rounds key).sent } };
  crash = λ t d w a tail h here p. record {
    short = short.crash t d w a tail h here p.short;
    rounds = λ key. record { facts = (p.rounds key).facts; leaders = leaders-set key (most_rounds t d) w a (down tail) (again w h) here (nothing-known key (most_rounds t d)) (p.rounds key).leaders; sent = (p.rounds key).sent };
  };
  stop = λ t d w a s h here p. record {
    short = short.stop t d w a s h here p.short;
    rounds = λ key. record { facts = (p.rounds key).facts; leaders = leaders-set key (most_rounds t d) w a _ (again w h) here ((p.rounds key).leaders a here) (p.rounds key).leaders; sent = (p.rounds key).sent };
  };
  restart = λ t d w a n h here p. record {
    short = short.restart t d w a n h here p.short;
    rounds = λ key. world-more key (most_rounds t d) (most_rounds t (d + 1)) (restart_happened w a n).world (calm-restart t d)
        (record { facts = fact-added key (most_rounds t d) a (Fact.Booted n) w.ledger (p.rounds key).facts (λ v. omega arith); leaders = leaders-set key (most_rounds t d) w a (record booted { tail = tail_after_append (centre_at w a).tail }) (again w h) here (nothing-known key (most_rounds t d)) (p.rounds key).leaders; sent = (p.rounds key).sent });
  };
  input = λ t d w a input h up fair known p. record {
    short = short.input t d w a input h up fair known p.short;
    rounds = λ key. input-calm t d w a input (again w h) (is-up IsSound cluster w a h up) p key (sent-round t d w input p key known);
  };
}
  where
    short : IsWalk cluster IsShort
    short = short-walk cluster sizes

    again : (w : World) → Holds IsSound cluster w → Holds IsSound w.cluster w
    again w h = record { same = refl; sizes = h.sizes; legal = h.legal; placed = h.placed; more = h.more; sent = h.sent; size = h.size; centres = h.centres }

    start : (n : ℕ) (key : Key) (a : ℕ) → AreRoundFacts key 0 (facts_of (booted_to n) a)
    start zero key a = λ v. omega arith
    start (suc n) key a = fact-added key 0 (suc n) (Fact.Booted 1) (booted_to n) (λ b. start n key b) (λ v. omega arith) a

    listed : (P : Envelope → Type 0) (ss : List Sent) (env : Envelope) → Each (λ (s : Sent). P s.envelope) ss → In env (envelopes ss) → P env
    listed P [] env h i = absurd i
    listed P (s ∷ ss) env h i = elim i [ inl e ↦ subst P (sym e) h.0 | inr r ↦ listed P ss env h.1 r ]

    sent-round : (t d : ℕ) (w : World) (input : Input) → AreCalm t d w → (key : Key) → IsSentInput w input → IsRoundInput key (most_rounds t d) input
    sent-round t d w (Input.Message env) p key i = listed (λ (env : Envelope). IsRound key (most_rounds t d) env.message) w.sent env (p.rounds key).sent i
    sent-round t d w Input.Tick p key i = tt
    sent-round t d w Input.Sweep p key i = tt
    sent-round t d w (Input.Read k) p key i = tt
    sent-round t d w (Input.Begin parts) p key i = tt

    input-calm : (t d : ℕ) (w : World) (a : ℕ) (input : Input) → Holds IsSound w.cluster w → IsUp IsSound w.cluster w.ledger a (centre_at w a).volatile → AreCalm t d w → (key : Key) → IsRoundInput key (most_rounds t d) input →
        IsRoundWorld key (most_rounds (t + ticks_in input) (d + others_in input)) (input_happened w a (step_at w a input)).world
    input-calm t d w a (Input.Message env) h up p key m =
        world-more key (most_rounds t d + 1) (most_rounds (t + 0) (d + 1)) _ (calm-other t d)
        (input-round key (most_rounds t d + 1) w a (step_at w a (Input.Message env)) h up.centre (world-more key (most_rounds t d) (most_rounds t d + 1) w (omega arith) (p.rounds key))
        (message-round key (most_rounds t d) w a env ((p.rounds key).facts a) ((p.rounds key).leaders a up.centre) m))
    input-calm t d w a (Input.Read k) h up p key m =
        world-more key (most_rounds t d) (most_rounds (t + 0) (d + 1)) _ (calm-less (calm-other t d))
        (input-round key (most_rounds t d) w a (step_at w a (Input.Read k)) h up.centre (p.rounds key) (record { fact = λ f e. absurd (cc); leader = (p.rounds key).leaders a up.centre; sends = tt; plain = λ es b. refl }))
    input-calm t d w a Input.Sweep h up p key m =
        world-more key (most_rounds t d) (most_rounds (t + 0) (d + 1)) _ (calm-less (calm-other t d))
        (input-round key (most_rounds t d) w a (step_at w a Input.Sweep) h up.centre (p.rounds key) (record {
          fact = λ f e. absurd (cc);
          leader = (p.rounds key).leaders a up.centre;
          sends = tt;
          plain = λ es b. refl;
        }))
    input-calm t d w a (Input.Begin parts) h up p key m =
        world-more key (most_rounds t d) (most_rounds (t + 0) (d + 1)) _ (calm-less (calm-other t d))
        (input-round key (most_rounds t d) w a (step_at w a (Input.Begin parts)) h up.centre (p.rounds key) (begin-round key (most_rounds t d) w.cluster a (facts_of w.ledger a) (centre_at w a).volatile parts ((p.rounds key).leaders a up.centre)))
    input-calm t d w a Input.Tick h up p key m =
        let s = tick-round key (most_rounds t d) w a up ((p.rounds key).facts a) ((p.rounds key).leaders a up.centre) in
        let n : ℕ = most_rounds t d + (opened_in (centre_at w a).volatile + number_of is_begin w.ledger) in
        world-more key (most_rounds t d + (opened_in (centre_at w a).volatile + number_of is_begin w.ledger)) (most_rounds (t + 1) (d + 0)) _ (calm-tick t d (opened_in (centre_at w a).volatile) (number_of is_begin w.ledger) (p.short.few a up.centre) p.short.begun)
        (input-round key (most_rounds t d + (opened_in (centre_at w a).volatile + number_of is_begin w.ledger)) w a (step_at w a Input.Tick) h up.centre
        (world-more key (most_rounds t d) (most_rounds t d + (opened_in (centre_at w a).volatile + number_of is_begin w.ledger)) w (omega arith) (p.rounds key))
        (record { fact = λ f e. absurd (cc); leader = s.leader; sends = s.sends; plain = s.plain }))

pub calm-reached : (cluster : Cluster) → IsCluster cluster → (events : List Event) → IsReached AreCalm 0 (run_of (first_world cluster) events).world
calm-reached cluster is events = trace-reached cluster AreCalm (calm-walk cluster is.quorums) (all-good) is.quorums events

-- ---- the bound

product : (t d : ℕ) → t + d ≤ 100000 → t * (256 + d) ≤ 3770000000
product t d h = by_half (cases_Bool (nat_le t 25000)) (cases_Bool (nat_le t 50000)) (cases_Bool (nat_le t 75000))
  where
    room : (x y : ℕ) → t ≤ x → 256 + d ≤ y → x * y ≤ 3770000000 → t * (256 + d) ≤ 3770000000
    room x y a b c = let m = mul-le t (256 + d) x y a b in omega (arith, m, c)

    by_half : (nat_le t 25000 ≡ true) ⊎ (nat_le t 25000 ≡ false) → (nat_le t 50000 ≡ true) ⊎ (nat_le t 50000 ≡ false) → (nat_le t 75000 ≡ true) ⊎ (nat_le t 75000 ≡ false) → t * (256 + d) ≤ 3770000000
    by_half (inl e) f g = let a = leb-true t 25000 e in room 25000 100256 (omega (arith, a)) (omega (arith, h)) (omega arith)
    by_half (inr e) (inl f) g = let a = leb-true t 50000 f in let b = leb-false t 25000 e in room 50000 75256 (omega (arith, a)) (omega (arith, b, h)) (omega arith)
    by_half (inr e) (inr f) (inl g) = let a = leb-true t 75000 g in let b = leb-false t 50000 f in room 75000 50256 (omega (arith, a)) (omega (arith, b, h)) (omega arith)
    by_half (inr e) (inr f) (inr g) = let b = leb-false t 75000 g in room 100000 25256 (omega (arith, h)) (omega (arith, b, h)) (omega arith)

-- so all rounds of a trace are within a number that leaves room for those of one more tick
pub rounds-within : (cluster : Cluster) → IsCluster cluster → (events : List Event) → (key : Key) →
    IsRoundWorld key 3770100000 (run_of (first_world cluster) events).world
rounds-within cluster is events key =
    let c = calm-reached cluster is events in
    let p = product c.ticks c.others (few c.ticks c.others _ c.within c.few) in
    world-more key (most_rounds c.ticks c.others) 3770100000 (run_of (first_world cluster) events).world (bound c.ticks c.others p (few c.ticks c.others _ c.within c.few)) (c.is.rounds key)
  where
    few : (t d n : ℕ) → t + d + 0 ≤ n → n ≤ 100000 → t + d ≤ 100000
    few t d n h g = omega (arith, h, g)

    bound : (t d : ℕ) → t * (256 + d) ≤ 3770000000 → t + d ≤ 100000 → most_rounds t d ≤ 3770100000
    bound t d h g = omega (arith, h, g)

-- no leader would begin a ballot with a round of 2^32 or more
pub rounds-low : (cluster : Cluster) → IsCluster cluster → (events : List Event) → (a : ℕ) → is_centre (run_of (first_world cluster) events).world.cluster a ≡ true → (key : Key) (version : ℕ) →
    next_round (facts_of (run_of (first_world cluster) events).world.ledger a) (centre_at (run_of (first_world cluster) events).world a).volatile.leader key version < 2 ^ 32
rounds-low cluster is events a here key version =
    let w : World = (run_of (first_world cluster) events).world in
    let r = rounds-within cluster is events key in
    let l = r.leaders a here in
    next (promise_of (facts_of w.ledger a) key version).round (number_kept_at (centre_at w a).volatile.leader.refused_rounds key) (number_kept_at (centre_at w a).volatile.leader.last_rounds key) 3770100000
    (r.facts a version) l.refused l.last (omega arith)
  where
    next : (x y z r : ℕ) → x ≤ r → y ≤ r → z ≤ r → r ≤ 3770100000 → 1 + max x (max y z) < 2 ^ 32
    next x y z r a b c h = omega (arith, a, b, c, h)
