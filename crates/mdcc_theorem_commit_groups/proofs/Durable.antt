-- A group becomes durable.
use Rattle.std.proofs.Common.{Bool, Err, List, None, Ok, Option, Result, Some, [], ap, append-nil, append_assoc, inl, inr, refl, subst, sym, ℕ, ◌++◌, ◌∙◌, ◌∷◌, ◌≡◌}
use Rattle.mdcc_base.specs.declared.identifiers.TxId.{TxId}
use Rattle.mdcc_option.specs.declared.cluster.Cluster.{Cluster}
use Rattle.mdcc_def_ledger.specs.Ledger.{Added, Entry, Valued, facts_of}
use Rattle.mdcc_def_messages.specs.declared.facts.Fact.{Fact}
use Rattle.mdcc_def_messages.specs.declared.messages.Envelope.{Envelope}
use Rattle.mdcc_def_protocol.specs.Volatile.{Volatile}
use Rattle.mdcc_def_rules.specs.Here.{here}
use Rattle.mdcc_def_rules.specs.Node.{step_of}
use Rattle.mdcc_def_rules.specs.Steps.{NodeStep, heard_by, with_new}
use Rattle.mdcc_def_rules.specs.declared.node.Input.{Input}
use Rattle.mdcc_def_rules.specs.declared.node.StepFault.{StepFault}
use Rattle.mdcc_theorem_reports.proofs.Entries.{BringsNoFacts, NoFacts, step-entries}
use Rattle.mdcc_def_server_runs.specs.Runs.{NodeState, after_run, after_step, facts_added, in_steps, listed, messages_sent, outcomes_heard, run_of_inputs}
use Rattle.mdcc_theorem_trace_states.specs.Invariant.{IsGood, IsGoodBy, IsGoodStep, IsOf}
use Rattle.mdcc_theorem_trace_states.specs.MessageMeaning.{TrueWhenSent}
use Rattle.mdcc_theorem_trace_states.specs.Steps.{AreGood, IsUp}
use Rattle.mdcc_theorem_trace_states.specs.Words.{Each, In}
use Rattle.mdcc_theorem_trace_states.proofs.Kept.{epoch-aboves, true-more}
use Rattle.mdcc_theorem_trace_states.proofs.Ledgers.{facts-own}
use Rattle.mdcc_theorem_trace_states.proofs.Lists.{Each-append, Each-like}
use Rattle.mdcc_theorem_commit_groups.proofs.Lasts.{all-fair}
use Rattle.mdcc_theorem_commit_groups.specs.Groups.{IsGroup, IsHeardIn, IsRunDurable, entries_by, entries_made, entries_made_by, facts_added_in, facts_onto, node_at}

-- ---- lists

pub steps-cons : {X : Type 0} (part : NodeStep → List X) (r : Result NodeStep StepFault) (made : List (Result NodeStep StepFault)) → in_steps part (r ∷ made) ≡ in_steps part (r ∷ []) ++ in_steps part made
steps-cons part (Ok step) made = ap (λ xs. xs ++ in_steps part made) (sym (append-nil (part step)))
steps-cons part (Err fault) made = refl

onto-more : (a : ℕ) (xs ys : List Fact) (all : List (ℕ × Fact)) → facts_onto a (xs ++ ys) all ≡ facts_onto a ys (facts_onto a xs all)
onto-more a [] ys all = refl
onto-more a (x ∷ xs) ys all = onto-more a xs ys ((a, x) ∷ all)

In-more : {A : Type 0} (x : A) (xs ys : List A) → In x ys → In x (xs ++ ys)
In-more x [] ys h = h
In-more x (z ∷ xs) ys h = inr (In-more x xs ys h)

-- ---- entries that are no facts

pub plain-facts : (entries es : List Entry) (a : ℕ) → NoFacts entries → facts_of (entries ++ es) a ≡ facts_of es a
plain-facts [] es a h = refl
plain-facts (Added c f ∷ entries) es a h = absurd h.0
plain-facts (Entry.Begun c t cs ∷ entries) es a h = plain-facts entries es a h.1
plain-facts (Valued c k v m os ∷ entries) es a h = plain-facts entries es a h.1

pub plain-added : (entries es : List Entry) → NoFacts entries → facts_added_in (entries ++ es) ≡ facts_added_in es
plain-added [] es h = refl
plain-added (Added c f ∷ entries) es h = absurd h.0
plain-added (Entry.Begun c t cs ∷ entries) es h = plain-added entries es h.1
plain-added (Valued c k v m os ∷ entries) es h = plain-added entries es h.1

-- ---- one step

-- what it leaves, where it adds these entries
pub record IsTaken (also : List Entry → Type 0) (cluster : Cluster) (es : List Entry) (a : ℕ) (new : List Entry) (volatile : Volatile) (facts : List Fact) (sends : List Envelope) (heard : List (TxId × Bool)) (added : List Fact) : Type 0 where
  pub own : Each (IsOf a) new
  pub up : IsUp also cluster (new ++ es) a volatile
  pub facts_are : facts_of (new ++ es) a ≡ facts
  pub stand : Each (TrueWhenSent cluster (new ++ es)) sends
  pub were_heard : Each (IsHeardIn (new ++ es) a) heard
  pub are_added : facts_added_in (new ++ es) ≡ facts_onto a added (facts_added_in es)

up-after : (also : List Entry → Type 0) (cluster : Cluster) (es : List Entry) (a : ℕ) (new : List Entry) (sends : List Envelope) (before after : Volatile) → IsUp also cluster es a before
    → IsGoodStep cluster also es a new sends after → IsUp also cluster (new ++ es) a after
up-after also cluster es a new sends before after up g = record {
  sizes = up.sizes;
  legal = g.legal;
  placed = g.placed;
  more = g.more;
  centre = up.centre;
  booted = epoch-aboves cluster new es a g.legal up.booted;
  keeps = g.keeps;
}

heard-here : (es : List Entry) (a : ℕ) (fact : Fact) → Each (IsHeardIn (Added a fact ∷ es) a) (listed (heard_by (Some fact)))
heard-here es a (Fact.Heard tx outcome) = (record { outcome = outcome; added = inl refl; same = refl }, tt)
heard-here es a (Fact.Booted n) = tt
heard-here es a (Fact.Promised k lo hi m) = tt
heard-here es a (Fact.Voted k v m os off) = tt
heard-here es a (Fact.Adopted k v it ds) = tt
heard-here es a (Fact.Floor origin era upto) = tt

by-fact : (also : List Entry → Type 0) (cluster : Cluster) (es : List Entry) (a : ℕ) (volatile : Volatile) (step : NodeStep) (o : Option Fact) → IsUp also cluster es a volatile
    → IsGoodBy cluster also es a step o → NoFacts step.entries
    → IsTaken also cluster es a (entries_by a step o) step.after (with_new (facts_of es a) o) step.sends (listed (heard_by o)) (listed o)
by-fact also cluster es a volatile step None up g none = record {
  own = g.own;
  up = up-after also cluster es a step.entries step.sends volatile step.after up g;
  facts_are = plain-facts step.entries es a none;
  stand = g.stand;
  were_heard = tt;
  are_added = plain-added step.entries es none;
}
by-fact also cluster es a volatile step (Some fact) up g none = record {
  own = g.1.own;
  up = up-after also cluster es a (Added a fact ∷ []) step.sends volatile step.after up g.1;
  facts_are = facts-own a fact es;
  stand = g.1.stand;
  were_heard = heard-here es a fact;
  are_added = refl;
}

pub taken : (also : List Entry → Type 0) (cluster : Cluster) (es : List Entry) (a : ℕ) (volatile : Volatile) (r : Result NodeStep StepFault) → IsUp also cluster es a volatile
    → IsGood cluster also es a r → BringsNoFacts r
    → IsTaken also cluster es a (entries_made_by a r) (after_step (node_at es a volatile) r).volatile (after_step (node_at es a volatile) r).facts (messages_sent (r ∷ [])) (outcomes_heard (r ∷ [])) (facts_added (r ∷ []))
taken also cluster es a volatile (Err fault) up g none = record { own = tt; up = up; facts_are = refl; stand = tt; were_heard = tt; are_added = refl }
taken also cluster es a volatile (Ok step) up g none =
    let t = by-fact also cluster es a volatile step step.fact up g none in
    record {
      own = t.own;
      up = t.up;
      facts_are = t.facts_are;
      stand = subst (Each (TrueWhenSent cluster (entries_by a step step.fact ++ es))) (sym (append-nil step.sends)) t.stand;
      were_heard = subst (Each (IsHeardIn (entries_by a step step.fact ++ es) a)) (sym (append-nil (listed (heard_by step.fact)))) t.were_heard;
      are_added = t.are_added ∙ ap (λ (fs : List Fact). facts_onto a fs (facts_added_in es)) (sym (append-nil (listed step.fact)));
    }

-- ---- one step, and then the others

pub heard-more : (new es : List Entry) (a : ℕ) (heard : TxId × Bool) → IsHeardIn es a heard → IsHeardIn (new ++ es) a heard
heard-more new es a heard h = record { outcome = h.outcome; added = In-more _ new es h.added; same = h.same }

joined : (also : List Entry → Type 0) (cluster : Cluster) (es : List Entry) (a : ℕ) (r : Result NodeStep StepFault) (made : List (Result NodeStep StepFault)) (volatile : Volatile) (facts : List Fact) (end : NodeState)
    → IsTaken also cluster es a (entries_made_by a r) volatile facts (messages_sent (r ∷ [])) (outcomes_heard (r ∷ [])) (facts_added (r ∷ []))
    → IsRunDurable also cluster (entries_made_by a r ++ es) a made end → IsRunDurable also cluster es a (r ∷ made) end
joined also cluster es a r made volatile facts end t d =
    let later : List Entry = entries_made a made in
    let first : List Entry = entries_made_by a r in
    let same : (later ++ first) ++ es ≡ later ++ (first ++ es) = append_assoc later first es in
    record {
      own = Each-append (IsOf a) later first d.own t.own;
      up = subst (λ (z : List Entry). IsUp also cluster z a end.volatile) (sym same) d.up;
      facts = ap (λ (z : List Entry). facts_of z a) same ∙ d.facts;
      sends = subst (λ (z : List Entry). Each (TrueWhenSent cluster z) (messages_sent (r ∷ made))) (sym same)
          (subst (Each (TrueWhenSent cluster (later ++ (first ++ es)))) (sym (steps-cons (λ step. step.sends) r made))
          (Each-append (TrueWhenSent cluster (later ++ (first ++ es))) (messages_sent (r ∷ [])) (messages_sent made)
          (Each-like (TrueWhenSent cluster (first ++ es)) (TrueWhenSent cluster (later ++ (first ++ es))) (messages_sent (r ∷ [])) (λ m g. true-more cluster later (first ++ es) m g) t.stand) d.sends));
      heard = subst (λ (z : List Entry). Each (IsHeardIn z a) (outcomes_heard (r ∷ made))) (sym same)
          (subst (Each (IsHeardIn (later ++ (first ++ es)) a)) (sym (steps-cons (λ step. listed (heard_by step.fact)) r made))
          (Each-append (IsHeardIn (later ++ (first ++ es)) a) (outcomes_heard (r ∷ [])) (outcomes_heard made)
          (Each-like (IsHeardIn (first ++ es) a) (IsHeardIn (later ++ (first ++ es)) a) (outcomes_heard (r ∷ [])) (λ x g. heard-more later (first ++ es) a x g) t.were_heard) d.heard));
      added = ap facts_added_in same ∙ (d.added ∙ (ap (λ (z : List (ℕ × Fact)). facts_onto a (facts_added made) z) t.are_added
          ∙ (sym (onto-more a (facts_added (r ∷ [])) (facts_added made) (facts_added_in es))
          ∙ ap (λ (fs : List Fact). facts_onto a fs (facts_added_in es)) (sym (steps-cons (λ step. listed step.fact) r made)))));
    }

-- ---- all of them

pub durable : (also : List Entry → Type 0) → AreGood also → (cluster : Cluster) (es : List Entry) (a : ℕ) (volatile : Volatile) (inputs : List Input) → IsGroup also cluster es a volatile inputs
    → IsRunDurable also cluster es a (run_of_inputs cluster a (node_at es a volatile) inputs) (after_run cluster a (node_at es a volatile) inputs)
durable also good cluster es a volatile [] g = record { own = tt; up = g.up; facts = refl; sends = tt; heard = tt; added = refl }
durable also good cluster es a volatile (input ∷ inputs) g =
    let r : Result NodeStep StepFault = step_of (here cluster a (facts_of es a)) volatile input in
    let node : NodeState = after_step (node_at es a volatile) r in
    let t = taken also cluster es a volatile r g.up (good.step cluster es a volatile input g.up g.fair.0) (step-entries cluster a (facts_of es a) volatile input) in
    let next = durable also good cluster (entries_made_by a r ++ es) a node.volatile inputs (record { up = t.up; fair = all-fair cluster (entries_made_by a r) es inputs g.fair.1 }) in
    let same : node_at (entries_made_by a r ++ es) a node.volatile ≡ node = ap (λ (fs : List Fact). record { facts = fs; volatile = node.volatile }) t.facts_are in
    joined also cluster es a r (run_of_inputs cluster a node inputs) node.volatile node.facts (after_run cluster a node inputs) t
    (subst (λ (n : NodeState). IsRunDurable also cluster (entries_made_by a r ++ es) a (run_of_inputs cluster a n inputs) (after_run cluster a n inputs)) same next)
