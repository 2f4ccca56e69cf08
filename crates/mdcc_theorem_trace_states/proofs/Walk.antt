-- A world keeps its invariant through events, where each step of a node is good.
use Rattle.std.proofs.Common.{Bool, Err, List, None, Ok, Option, Result, Some, [], arith, cond, get_or, inl, inr, length, map, refl, set, subst, sym, true, ℕ, ◌++◌, ◌+◌, ◌-◌, ◌==◌, ◌∙◌, ◌∷◌, ◌≡◌, ◌≢◌, ◌≤◌}
use Rattle.std.specs.Prelude.{nat_le}
use Rattle.std.proofs.lemmas.Bool.{and_parts, cases_Bool, eqb-false, eqb-true, leb-true, true≢false}
use Rattle.std.proofs.lemmas.List.{get_or-set_other, get_or-set_same, length-set}
use Rattle.mdcc_base.specs.declared.outside.Image.{Image}
use Rattle.mdcc_option.specs.declared.cluster.Cluster.{Cluster}
use Rattle.mdcc_def_messages.specs.declared.facts.Fact.{Fact}
use Rattle.mdcc_def_ledger.specs.Ledger.{Added, Entry}
use Rattle.mdcc_def_ledger.specs.AllowedLedgers.{IsAllowed}
use Rattle.mdcc_def_protocol.specs.Belongs.{is_centre}
use Rattle.mdcc_def_messages.specs.declared.messages.Envelope.{Envelope}
use Rattle.mdcc_def_rules.specs.Steps.{NodeStep}
use Rattle.mdcc_def_rules.specs.declared.node.StepFault.{StepFault}
use Rattle.mdcc_def_protocol.specs.Volatile.{Volatile}
use Rattle.mdcc_def_messages.specs.Mailbox.{Sent, unsent}
use Rattle.mdcc_def_simulation.specs.State.{SimulatedSite, World, booted, centre_at, down}
use Rattle.mdcc_def_simulation.specs.AppliedSteps.{fact_happened, fact_applied, input_happened, step_happened_by, step_stopped}
use Rattle.mdcc_def_simulation.specs.Checkpoints.{is_frame_kept, striking_at, tail_after_append}
use Rattle.mdcc_theorem_trace_states.specs.Words.{Each}
use Rattle.mdcc_theorem_trace_states.specs.VolatileInvariant.{ArePlaced, IsCentre}
use Rattle.mdcc_theorem_trace_states.specs.Invariant.{Holds, IsGood, IsGoodBy, IsGoodStep, IsOf}
use Rattle.mdcc_theorem_trace_states.specs.MessageMeaning.{TrueWhenSent}
use Rattle.mdcc_theorem_trace_states.proofs.Lists.{Each-append, Each-like, Each-map}
use Rattle.mdcc_theorem_trace_states.proofs.Kept.{IsCentre-others, true-more, epoch-aboves}
use Rattle.mdcc_def_messages.specs.Lengths.{messages_length}

-- ---- one centre changes

abbrev pub moved : World → ℕ → SimulatedSite → List Entry → List Sent → ℕ → World
moved w a c new sent bytes = record { cluster = w.cluster; ledger = new ++ w.ledger; sent = sent; bytes = bytes; reads = w.reads; events = w.events; centres = set w.centres (a - 1) c }

same_place : (a b : ℕ) → 1 ≤ a → 1 ≤ b → (a ≡ b → ⊥) → b - 1 ≢ a - 1
same_place a b h g n e = n (omega (arith, h, g, e))

pub centre-set : (cs : List SimulatedSite) (a b n : ℕ) (c : SimulatedSite) → (1 ≤ a) × (a ≤ n) → 1 ≤ b → length cs ≡ n → get_or (set cs (a - 1) c) (b - 1) booted ≡ cond (a == b) c (get_or cs (b - 1) booted)
centre-set cs a b n c h g size =
    elim (cases_Bool (a == b)) [
      | inl e ↦ rw e (subst (λ z. get_or (set cs (a - 1) c) (z - 1) booted ≡ c) (eqb-true a b e) (get_or-set_same cs (a - 1) c booted (omega (arith, size, h.0, h.1))))
      | inr e ↦ rw e (get_or-set_other cs (a - 1) (b - 1) c booted (same_place a b h.0 g (eqb-false a b e)))
    ]

pub bounds : (cluster : Cluster) (a : ℕ) → is_centre cluster a ≡ true → (1 ≤ a) × (a ≤ cluster.quorums.centres)
bounds cluster a h = let p = and_parts (nat_le 1 a) (nat_le a cluster.quorums.centres) h in (leb-true _ _ p.0, leb-true _ _ p.1)

pub moved-holds : (also : List Entry → Type 0) (cluster : Cluster) (w : World) (a : ℕ) (c : SimulatedSite) (new : List Entry) (sent : List Sent) (bytes : ℕ) → Holds also cluster w → is_centre w.cluster a ≡ true →
    Each (IsOf a) new → IsAllowed w.cluster (new ++ w.ledger) → ArePlaced (new ++ w.ledger) → also (new ++ w.ledger) → Each (λ (s : Sent). TrueWhenSent w.cluster (new ++ w.ledger) s.envelope) sent →
    IsCentre w.cluster (new ++ w.ledger) a c → Holds also cluster (moved w a c new sent bytes)
moved-holds also cluster w a c new sent bytes h here own legal placed more stand kept = record {
  same = h.same;
  sizes = h.sizes;
  legal = legal;
  placed = placed;
  more = more;
  sent = stand;
  size = length-set w.centres (a - 1) c ∙ h.size;
  centres = each;
}
  where
    each : (b : ℕ) → is_centre w.cluster b ≡ true → IsCentre w.cluster (new ++ w.ledger) b (get_or (set w.centres (a - 1) c) (b - 1) booted)
    each b there =
        let at = centre-set w.centres a b w.cluster.quorums.centres c (bounds w.cluster a here) (bounds w.cluster b there).0 h.size in
        elim (cases_Bool (a == b)) [
          | inl e ↦ let g : get_or (set w.centres (a - 1) c) (b - 1) booted ≡ c = at ∙ rw e refl in
              subst (λ z. IsCentre w.cluster (new ++ w.ledger) b z) (sym g) (subst (λ z. IsCentre w.cluster (new ++ w.ledger) z c) (eqb-true a b e) kept)
          | inr e ↦ let g : get_or (set w.centres (a - 1) c) (b - 1) booted ≡ get_or w.centres (b - 1) booted = at ∙ rw e refl in
              subst (λ z. IsCentre w.cluster (new ++ w.ledger) b z) (sym g)
              (IsCentre-others w.cluster new w.ledger a b (get_or w.centres (b - 1) booted) legal own e (h.centres b there))
        ]

sent-more : (cluster : Cluster) (new es : List Entry) (sent : List Sent) → Each (λ (s : Sent). TrueWhenSent cluster es s.envelope) sent → Each (λ (s : Sent). TrueWhenSent cluster (new ++ es) s.envelope) sent
sent-more cluster new es sent h = Each-like (λ (s : Sent). TrueWhenSent cluster es s.envelope) (λ (s : Sent). TrueWhenSent cluster (new ++ es) s.envelope) sent (λ s g. true-more cluster new es s.envelope g) h

-- a good step, with the new entries that it makes
pub good-holds : (also : List Entry → Type 0) (cluster : Cluster) (w : World) (a : ℕ) (new : List Entry) (sends : List Envelope) (after : Volatile) (stop : Option (ℕ × Image)) (up : Bool) (tail bytes : ℕ) → Holds also cluster w → is_centre w.cluster a ≡ true →
    IsGoodStep w.cluster also w.ledger a new sends after → Holds also cluster (moved w a (record { is_up = up; stop = stop; tail = tail; volatile = after }) new (w.sent ++ map unsent sends) bytes)
good-holds also cluster w a new sends after stop up tail bytes h here g =
    moved-holds also cluster w a (record { is_up = up; stop = stop; tail = tail; volatile = after }) new (w.sent ++ map unsent sends) bytes h here g.own g.legal g.placed g.more
    (Each-append (λ (s : Sent). TrueWhenSent w.cluster (new ++ w.ledger) s.envelope) w.sent (map unsent sends) (sent-more w.cluster new w.ledger w.sent h.sent)
    (Each-map (λ (s : Sent). TrueWhenSent w.cluster (new ++ w.ledger) s.envelope) unsent sends g.stand))
    (record { booted = epoch-aboves w.cluster new w.ledger a g.legal (h.centres a here).booted; keeps = λ u. g.keeps })

-- a centre goes down, with or without its new fact
pub down-holds : (also : List Entry → Type 0) (cluster : Cluster) (w : World) (a tail : ℕ) (new : List Entry) → Holds also cluster w → is_centre w.cluster a ≡ true →
    Each (IsOf a) new → IsAllowed w.cluster (new ++ w.ledger) → ArePlaced (new ++ w.ledger) → also (new ++ w.ledger) → Holds also cluster (moved w a (down tail) new w.sent w.bytes)
down-holds also cluster w a tail new h here own legal placed more =
    moved-holds also cluster w a (down tail) new w.sent w.bytes h here own legal placed more (sent-more w.cluster new w.ledger w.sent h.sent)
    (record { booted = epoch-aboves w.cluster new w.ledger a legal (h.centres a here).booted; keeps = λ u. absurd (true≢false (sym u)) })

stopped-holds : (also : List Entry → Type 0) (cluster : Cluster) (w : World) (a : ℕ) (step : NodeStep) (fact : Fact) (stop : ℕ × Image) → Holds also cluster w → is_centre w.cluster a ≡ true →
    IsGoodStep w.cluster also w.ledger a (Added a fact ∷ []) step.sends step.after → Holds also cluster (step_stopped w a fact stop).world
stopped-holds also cluster w a step fact stop h here g =
    elim (cases_Bool (is_frame_kept stop.0 stop.1)) [
      | inl e ↦ rw e (down-holds also cluster w a _ (Added a fact ∷ []) h here g.own g.legal g.placed g.more)
      | inr e ↦ rw e (down-holds also cluster w a _ [] h here tt h.legal h.placed h.more)
    ]

taken-holds : (also : List Entry → Type 0) (cluster : Cluster) (w : World) (a : ℕ) (step : NodeStep) (fact : Fact) → Holds also cluster w → is_centre w.cluster a ≡ true → step.entries ≡ [] →
    IsGoodStep w.cluster also w.ledger a (Added a fact ∷ []) step.sends step.after → Holds also cluster (fact_applied w a step fact).world
taken-holds also cluster w a step fact h here none g =
    subst (λ (z : List Entry). Holds also cluster (moved w a (record { is_up = (centre_at w a).is_up; stop = (centre_at w a).stop; tail = tail_after_append (centre_at w a).tail; volatile = step.after }) (Added a fact ∷ z) (w.sent ++ map unsent step.sends) (w.bytes + messages_length step.sends)))
    (sym none) (good-holds also cluster w a (Added a fact ∷ []) step.sends step.after (centre_at w a).stop (centre_at w a).is_up (tail_after_append (centre_at w a).tail) (w.bytes + messages_length step.sends) h here g)

fact-holds : (also : List Entry → Type 0) (cluster : Cluster) (w : World) (a : ℕ) (step : NodeStep) (fact : Fact) (stop : Option (ℕ × Image)) → Holds also cluster w → is_centre w.cluster a ≡ true → step.entries ≡ [] →
    IsGoodStep w.cluster also w.ledger a (Added a fact ∷ []) step.sends step.after → Holds also cluster (fact_happened w a step fact stop).world
fact-holds also cluster w a step fact None h here none g = taken-holds also cluster w a step fact h here none g
fact-holds also cluster w a step fact (Some stop) h here none g = stopped-holds also cluster w a step fact stop h here g

step-holds : (also : List Entry → Type 0) (cluster : Cluster) (w : World) (a : ℕ) (step : NodeStep) (fact : Option Fact) → Holds also cluster w → is_centre w.cluster a ≡ true →
    IsGoodBy w.cluster also w.ledger a step fact → Holds also cluster (step_happened_by w a step fact).world
step-holds also cluster w a step None h here g = good-holds also cluster w a step.entries step.sends step.after (centre_at w a).stop (centre_at w a).is_up (centre_at w a).tail (w.bytes + messages_length step.sends) h here g
step-holds also cluster w a step (Some fact) h here g = fact-holds also cluster w a step fact (striking_at w a) h here g.0 g.1

pub input-holds : (also : List Entry → Type 0) (cluster : Cluster) (w : World) (a : ℕ) (result : Result NodeStep StepFault) → Holds also cluster w → is_centre w.cluster a ≡ true →
    IsGood w.cluster also w.ledger a result → Holds also cluster (input_happened w a result).world
input-holds also cluster w a (Ok step) h here g = step-holds also cluster w a step step.fact h here g
input-holds also cluster w a (Err (StepFault.NoRoom needed spare)) h here g = h
input-holds also cluster w a (Err StepFault.Foreign) h here g = h
input-holds also cluster w a (Err StepFault.Crowded) h here g = h
input-holds also cluster w a (Err StepFault.Exhausted) h here g = h
input-holds also cluster w a (Err StepFault.Memory) h here g = h
