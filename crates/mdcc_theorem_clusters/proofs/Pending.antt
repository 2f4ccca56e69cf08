-- What is pending at a centre grows by turns, and is true when it goes out.
use Rattle.std.proofs.Common.{List, Result, [], ap, append_assoc, inl, inr, refl, subst, sym, ℕ, ◌++◌, ◌∙◌, ◌∷◌, ◌≡◌}
use Rattle.std.specs.List.{AllByRecursion}
use Rattle.mdcc_base.specs.declared.identifiers.TxId.{TxId}
use Rattle.mdcc_config.specs.declared.config.Config.{Config}
use Rattle.mdcc_def_ledger.specs.Ledger.{Entry, facts_of}
use Rattle.mdcc_def_messages.specs.declared.facts.Fact.{Fact}
use Rattle.mdcc_def_messages.specs.declared.messages.Envelope.{Envelope}
use Rattle.mdcc_option.specs.declared.cluster.Cluster.{Cluster}
use Rattle.mdcc_def_protocol.specs.Facts.{epoch_of}
use Rattle.mdcc_def_protocol.specs.Volatile.{Volatile}
use Rattle.mdcc_def_rules.specs.Steps.{NodeStep, heard_by}
use Rattle.mdcc_def_rules.specs.declared.node.Input.{Input}
use Rattle.mdcc_def_rules.specs.declared.node.StepFault.{StepFault}
use Rattle.mdcc_theorem_server_runs.proofs.Joined.{all_owed, both_owed, node_after_run, run_joined}
use Rattle.mdcc_theorem_server_runs.proofs.Outgoing.{out_site}
use Rattle.mdcc_theorem_server_runs.proofs.Turned.{inputs_run}
use Rattle.mdcc_theorem_server_runs.specs.Inputs.{turn_inputs}
use Rattle.mdcc_theorem_server_runs.specs.Told.{IsEnvelopeOf, IsOwed}
use Rattle.mdcc_def_server_runs.specs.Clients.{begun_for, known_of}
use Rattle.mdcc_def_server_runs.specs.Runs.{NodeState, after_run, after_step, facts_added, in_steps, listed, messages_sent, outcomes_heard, run_of_inputs, step_on}
use Rattle.mdcc_def_server_runs.specs.Sending.{persist_then_send}
use Rattle.mdcc_def_server_runs.specs.Sites.{Pending, Site}
use Rattle.mdcc_def_server_runs.specs.Turns.{Given, turn_inputs_taken}
use Rattle.mdcc_theorem_node_steps.specs.NodeInvariant.{IsNode}
use Rattle.mdcc_theorem_trace_states.specs.MessageMeaning.{TrueWhenSent}
use Rattle.mdcc_theorem_trace_states.specs.Steps.{AreGood}
use Rattle.mdcc_theorem_trace_states.specs.Words.{Each}
use Rattle.mdcc_theorem_clusters.proofs.Answered.{begun-now, soon-now}
use Rattle.mdcc_theorem_commit_groups.proofs.Durable.{durable, steps-cons}
use Rattle.mdcc_theorem_clusters.specs.Answers.{AnswersAt, HasHeard, IsOwedOnceDurable}
use Rattle.mdcc_theorem_commit_groups.specs.Groups.{IsGroup, IsHeardIn, entries_made, node_at}
use Rattle.mdcc_theorem_clusters.specs.Pending.{GoesOut, IsToldTrue, Pends}

-- ---- lists

steps-more : {X : Type 0} (part : NodeStep → List X) (xs ys : List (Result NodeStep StepFault)) → in_steps part (xs ++ ys) ≡ in_steps part xs ++ in_steps part ys
steps-more part [] ys = refl
steps-more {X = X} part (x ∷ xs) ys =
    steps-cons part x (xs ++ ys)
    ∙ (ap (λ (zs : List X). in_steps part (x ∷ []) ++ zs) (steps-more part xs ys)
    ∙ (sym (append_assoc (in_steps part (x ∷ [])) (in_steps part xs) (in_steps part ys))
    ∙ ap (λ (zs : List X). zs ++ in_steps part ys) (sym (steps-cons part x xs))))

run-more : (cluster : Cluster) (a : ℕ) (node : NodeState) (xs ys : List Input) → after_run cluster a node (xs ++ ys) ≡ after_run cluster a (after_run cluster a node xs) ys
run-more cluster a node [] ys = refl
run-more cluster a node (x ∷ xs) ys = run-more cluster a (after_step node (step_on cluster a node x)) xs ys

one-left : (xs ys : List Envelope) (m : Envelope) → IsEnvelopeOf xs m → IsEnvelopeOf (xs ++ ys) m
one-left [] ys m h = absurd h
one-left (x ∷ xs) ys m h = elim h [ inl e ↦ inl e | inr r ↦ inr (one-left xs ys m r) ]

one-right : (xs ys : List Envelope) (m : Envelope) → IsEnvelopeOf ys m → IsEnvelopeOf (xs ++ ys) m
one-right [] ys m h = h
one-right (x ∷ xs) ys m h = inr (one-right xs ys m h)

owed-left : (a : ℕ) (xs ys : List Envelope) (m : Envelope) → IsOwed a xs m → IsOwed a (xs ++ ys) m
owed-left a xs ys m h = elim h [ inl e ↦ inl (one-left xs ys m e) | inr r ↦ inr r ]

owed-right : (a : ℕ) (xs ys : List Envelope) (m : Envelope) → IsOwed a ys m → IsOwed a (xs ++ ys) m
owed-right a xs ys m h = elim h [ inl e ↦ inl (one-right xs ys m e) | inr r ↦ inr r ]

-- ---- turns

-- what a turn leaves, of a centre of this number with this node
pub record Adds (cluster : Cluster) (a : ℕ) (node : NodeState) (more : List Input) (before after : Site) : Type 0 where
  pub mail : List Envelope
  pub centre_is : after.centre ≡ a
  pub node_is : after.node ≡ after_run cluster a node more
  pub facts_are : after.pending.facts ≡ before.pending.facts ++ facts_added (run_of_inputs cluster a node more)
  pub heard_are : after.pending.heard ≡ before.pending.heard ++ outcomes_heard (run_of_inputs cluster a node more)
  pub mail_is : after.pending.envelopes ≡ before.pending.envelopes ++ mail
  pub owed : AllByRecursion (IsOwed a (messages_sent (run_of_inputs cluster a node more))) mail

turn-adds : (config : Config) (site : Site) (given : Given) → Adds config.cluster site.centre site.node (turn_inputs config site given) site (turn_inputs_taken config site given).site
turn-adds config site given =
    let leaves = inputs_run config site given in
    record {
      mail = leaves.mail;
      centre_is = leaves.centre_is;
      node_is = leaves.node_is ∙ node_after_run config.cluster site.centre site.node (turn_inputs config site given);
      facts_are = ap (λ (p : Pending). p.facts) leaves.pending_is;
      heard_are = ap (λ (p : Pending). p.heard) leaves.pending_is;
      mail_is = ap (λ (p : Pending). p.envelopes) leaves.pending_is;
      owed = leaves.owed;
    }

adds-pend : (cluster : Cluster) (es : List Entry) (a : ℕ) (volatile : Volatile) (inputs more : List Input) (before after : Site) → Pends cluster es a volatile inputs before
    → Adds cluster a (after_run cluster a (node_at es a volatile) inputs) more before after → Pends cluster es a volatile (inputs ++ more) after
adds-pend cluster es a volatile inputs more before after p adds =
    let node : NodeState = node_at es a volatile in
    let first = run_of_inputs cluster a node inputs in
    let second = run_of_inputs cluster a (after_run cluster a node inputs) more in
    let joined : run_of_inputs cluster a node (inputs ++ more) ≡ first ++ second =
    run_joined cluster a node inputs more ∙ ap (λ (n : NodeState). first ++ run_of_inputs cluster a n more) (node_after_run cluster a node inputs) in
    record {
      centre_is = adds.centre_is;
      node_is = adds.node_is ∙ sym (run-more cluster a node inputs more);
      facts_are = adds.facts_are ∙ (ap (λ (fs : List Fact). fs ++ facts_added second) p.facts_are
          ∙ (sym (steps-more (λ step. listed step.fact) first second) ∙ sym (ap facts_added joined)));
      heard_are = adds.heard_are ∙ (ap (λ (hs : List (TxId × _)). hs ++ outcomes_heard second) p.heard_are
          ∙ (sym (steps-more (λ step. listed (heard_by step.fact)) first second) ∙ sym (ap outcomes_heard joined)));
      owed = subst (λ (made : List (Result NodeStep StepFault)). AllByRecursion (IsOwed a (messages_sent made)) after.pending.envelopes) (sym joined)
          (subst (λ (ms : List Envelope). AllByRecursion (IsOwed a ms) after.pending.envelopes) (sym (steps-more (λ step. step.sends) first second))
          (subst (AllByRecursion (IsOwed a (messages_sent first ++ messages_sent second))) (sym adds.mail_is)
          (both_owed (IsOwed a (messages_sent first ++ messages_sent second)) before.pending.envelopes adds.mail
          (all_owed (IsOwed a (messages_sent first)) (IsOwed a (messages_sent first ++ messages_sent second)) before.pending.envelopes (λ m h. owed-left a (messages_sent first) (messages_sent second) m h) p.owed)
          (all_owed (IsOwed a (messages_sent second)) (IsOwed a (messages_sent first ++ messages_sent second)) adds.mail (λ m h. owed-right a (messages_sent first) (messages_sent second) m h) adds.owed))));
    }

pub turn-pends : (config : Config) (es : List Entry) (a : ℕ) (volatile : Volatile) (inputs : List Input) (site : Site) (given : Given)
    → Pends config.cluster es a volatile inputs site
    → Pends config.cluster es a volatile (inputs ++ turn_inputs config site given) (turn_inputs_taken config site given).site
turn-pends config es a volatile inputs site given p =
    let adds = turn-adds config site given in
    let here = subst (λ (c : ℕ). Adds config.cluster c site.node (turn_inputs config site given) site (turn_inputs_taken config site given).site) p.centre_is adds in
    adds-pend config.cluster es a volatile inputs (turn_inputs config site given) site (turn_inputs_taken config site given).site p
    (subst (λ (n : NodeState). Adds config.cluster a n (turn_inputs config site given) site (turn_inputs_taken config site given).site) p.node_is here)

-- ---- what goes out

told-one : (cluster : Cluster) (now : List Entry) (sends : List Envelope) (m : Envelope) → Each (TrueWhenSent cluster now) sends → IsEnvelopeOf sends m → TrueWhenSent cluster now m
told-one cluster now [] m h is = absurd is
told-one cluster now (x ∷ sends) m h is = elim is [ inl e ↦ subst (TrueWhenSent cluster now) (sym e) h.0 | inr r ↦ told-one cluster now sends m h.1 r ]

told : (config : Config) (G : ℕ → List ℕ → Type 0) (es : List Entry) (a : ℕ) (made : List (Result NodeStep StepFault)) (m : Envelope) → Each (TrueWhenSent config.cluster (entries_made a made ++ es)) (messages_sent made)
    → IsOwedOnceDurable config G es a made (facts_of (entries_made a made ++ es) a) m → IsToldTrue config G (entries_made a made ++ es) a (epoch_of (facts_of (entries_made a made ++ es) a)) m
told config G es a made m h owed =
    elim owed [
      | inl is ↦ inl (told-one config.cluster (entries_made a made ++ es) (messages_sent made) m h is)
      | inr answer ↦ inr (record { serial = answer.serial; answer = answer.answer; is = answer.is; told = soon-now config G es a made answer.serial answer.answer answer.soon })
    ]

no-mail : (config : Config) (G : ℕ → List ℕ → Type 0) (now : List Entry) (a : ℕ) (site : Site) → AllByRecursion (IsOwedOnceDurable config G now a [] (persist_then_send config site).site.node.facts) (persist_then_send config site).site.pending.envelopes
no-mail config G now a site =
    let none : (persist_then_send config site).site.pending.envelopes ≡ [] = ap (λ (s : Site). s.pending.envelopes) (out_site config site) in
    subst (AllByRecursion (IsOwedOnceDurable config G now a [] (persist_then_send config site).site.node.facts)) (sym none) tt

pub goes-out : (also : List Entry → Type 0) → AreGood also → (config : Config) (G : ℕ → List ℕ → Type 0) (es : List Entry) (a : ℕ) (volatile : Volatile) (inputs : List Input) (site : Site)
    → IsGroup also config.cluster es a volatile inputs → Pends config.cluster es a volatile inputs site → AnswersAt config G es a (node_at es a volatile) inputs site
    → GoesOut config G es a volatile inputs site (entries_made a (run_of_inputs config.cluster a (node_at es a volatile) inputs) ++ es)
goes-out also good config G es a volatile inputs site group p answers =
    let made = run_of_inputs config.cluster a (node_at es a volatile) inputs in
    let now : List Entry = entries_made a made ++ es in
    let end : NodeState = after_run config.cluster a (node_at es a volatile) inputs in
    let d = durable also good config.cluster es a volatile inputs group in
    let out = out_site config site in
    let facts : site.node.facts ≡ facts_of now a = ap (λ (n : NodeState). n.facts) p.node_is ∙ sym d.facts in
    let same_node : (persist_then_send config site).site.node ≡ node_at now a end.volatile =
    ap (λ (s : Site). s.node) out ∙ (p.node_is ∙ ap (λ (fs : List Fact). record { facts = fs; volatile = end.volatile }) (sym d.facts)) in
    record {
      heard = subst (Each (IsHeardIn now a)) (sym p.heard_are) d.heard;
      mail = all_owed (IsOwedOnceDurable config G es a made (facts_of now a)) (IsToldTrue config G now a (epoch_of (facts_of now a))) site.pending.envelopes (λ m h. told config G es a made m d.sends h)
          (subst (λ (fs : List Fact). AllByRecursion (IsOwedOnceDurable config G es a made fs) site.pending.envelopes) facts answers.mail);
      next = record {
        centre_is = ap (λ (s : Site). s.centre) out ∙ p.centre_is;
        node_is = ap (λ (s : Site). s.node) out ∙ (p.node_is ∙ ap (λ (fs : List Fact). record { facts = fs; volatile = end.volatile }) (sym d.facts));
        facts_are = ap (λ (s : Site). s.pending.facts) out;
        heard_are = ap (λ (s : Site). s.pending.heard) out;
        owed = subst (λ (s : Site). AllByRecursion (IsOwed a []) s.pending.envelopes) (sym out) tt;
      };
      answers = record {
        centre_is = ap (λ (s : Site). s.centre) out ∙ p.centre_is;
        node_is = same_node;
        node_formed = subst (λ (n : NodeState). IsNode config.cluster a n.facts n.volatile) (sym (ap (λ (s : Site). s.node) out)) answers.node_formed;
        mail = no-mail config G now a site;
        begun = λ serial tx f. begun-now config G es a made serial tx (answers.begun serial tx (sym (ap (λ (s : Site). begun_for s.clients serial) out) ∙ f));
        made_for = λ b tx choices i. absurd i;
        noted = λ tx one k. begun-now config G es a made one.serial tx (answers.noted tx one (sym (ap (λ (s : Site). known_of s.clients tx) out) ∙ k));
        ended = λ tx one commits k f. subst (λ (n : NodeState). HasHeard n.facts tx commits) (sym (ap (λ (s : Site). s.node) out))
            (answers.ended tx one commits (sym (ap (λ (s : Site). known_of s.clients tx) out) ∙ k) f);
      };
    }
