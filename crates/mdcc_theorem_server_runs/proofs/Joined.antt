-- Runs one after another, and what their inputs leave.
use Rattle.std.proofs.Common.{◌≡◌, ℕ, ◌+◌, List, [], ◌∷◌, ◌++◌, Result, Ok, Err, refl, sym, ◌∙◌, ap, ap₂, subst, append_assoc, length, length-append, inl, inr, arith}
use Rattle.std.specs.List.{AllByRecursion}
use Rattle.std.proofs.lemmas.List.Elements.{filter-append}
use Rattle.mdcc_def_messages.specs.declared.messages.Envelope.{Envelope}
use Rattle.mdcc_option.specs.declared.cluster.Cluster.{Cluster}
use Rattle.mdcc_def_rules.specs.Steps.{NodeStep, heard_by}
use Rattle.mdcc_def_rules.specs.declared.node.Input.{Input}
use Rattle.mdcc_def_rules.specs.declared.node.StepFault.{StepFault}
use Rattle.mdcc_theorem_server_runs.proofs.Queued.{both_pending, pending_assoc, pending_of, pendings_are}
use Rattle.mdcc_theorem_server_runs.proofs.Seen.{IsInward, sees_then}
use Rattle.mdcc_theorem_server_runs.specs.Told.{IsEnvelopeOf, IsOwed, between_centres, is_for_centre, node_after, steps_made}
use Rattle.mdcc_def_server_runs.specs.Acts.{Act}
use Rattle.mdcc_def_server_runs.specs.Runs.{NodeState, after_run, after_step, facts_added, in_steps, listed, messages_sent, outcomes_heard, run_of_inputs, step_on}
use Rattle.mdcc_def_server_runs.specs.Sites.{Doing, Pending, Site, after_acts}

-- ---- runs

pub in_steps_joined : {X : Type 0} (part : NodeStep → List X) (xs ys : List (Result NodeStep StepFault))
    → in_steps part (xs ++ ys) ≡ in_steps part xs ++ in_steps part ys
in_steps_joined part [] ys = refl
in_steps_joined part (Ok step ∷ xs) ys =
    ap (λ zs. part step ++ zs) (in_steps_joined part xs ys) ∙ sym (append_assoc (part step) (in_steps part xs) (in_steps part ys))
in_steps_joined part (Err fault ∷ xs) ys = in_steps_joined part xs ys

pub node_joined : (node : NodeState) (xs ys : List (Result NodeStep StepFault)) → node_after node (xs ++ ys) ≡ node_after (node_after node xs) ys
node_joined node [] ys = refl
node_joined node (x ∷ xs) ys = node_joined (after_step node x) xs ys

pub run_joined : (cluster : Cluster) (me : ℕ) (node : NodeState) (xs ys : List Input)
    → run_of_inputs cluster me node (xs ++ ys) ≡ run_of_inputs cluster me node xs ++ run_of_inputs cluster me (node_after node (run_of_inputs cluster me node xs)) ys
run_joined cluster me node [] ys = refl
run_joined cluster me node (x ∷ xs) ys =
    let made = step_on cluster me node x in
    ap (λ (zs : List (Result NodeStep StepFault)). made ∷ zs) (run_joined cluster me (after_step node made) xs ys)

pub node_after_run : (cluster : Cluster) (me : ℕ) (node : NodeState) (inputs : List Input) → node_after node (run_of_inputs cluster me node inputs) ≡ after_run cluster me node inputs
node_after_run cluster me node [] = refl
node_after_run cluster me node (x ∷ inputs) = node_after_run cluster me (after_step node (step_on cluster me node x)) inputs

-- ---- messages that are owed

one_of_left : (xs ys : List Envelope) (next : Envelope) → IsEnvelopeOf xs next → IsEnvelopeOf (xs ++ ys) next
one_of_left [] ys next is = absurd is
one_of_left (x ∷ xs) ys next (inl e) = inl e
one_of_left (x ∷ xs) ys next (inr is) = inr (one_of_left xs ys next is)

one_of_right : (xs ys : List Envelope) (next : Envelope) → IsEnvelopeOf ys next → IsEnvelopeOf (xs ++ ys) next
one_of_right [] ys next is = is
one_of_right (x ∷ xs) ys next is = inr (one_of_right xs ys next is)

owed_left : (centre : ℕ) (xs ys : List Envelope) (next : Envelope) → IsOwed centre xs next → IsOwed centre (xs ++ ys) next
owed_left centre xs ys next (inl is) = inl (one_of_left xs ys next is)
owed_left centre xs ys next (inr is) = inr is

owed_right : (centre : ℕ) (xs ys : List Envelope) (next : Envelope) → IsOwed centre ys next → IsOwed centre (xs ++ ys) next
owed_right centre xs ys next (inl is) = inl (one_of_right xs ys next is)
owed_right centre xs ys next (inr is) = inr is

pub all_owed : (P Q : Envelope → Type 0) (xs : List Envelope) → ((x : Envelope) → P x → Q x) → AllByRecursion P xs → AllByRecursion Q xs
all_owed P Q [] so all = tt
all_owed P Q (x ∷ xs) so all = (so x all.0, all_owed P Q xs so all.1)

pub both_owed : (P : Envelope → Type 0) (xs ys : List Envelope) → AllByRecursion P xs → AllByRecursion P ys → AllByRecursion P (xs ++ ys)
both_owed P [] ys one two = two
both_owed P (x ∷ xs) ys one two = (one.0, both_owed P xs ys one.1 two)

-- each of them is one of them
pub each_owed : (centre : ℕ) (xs : List Envelope) → AllByRecursion (IsOwed centre xs) xs
each_owed centre [] = tt
each_owed centre (x ∷ xs) =
    (inl (inl refl), all_owed (IsOwed centre xs) (IsOwed centre (x ∷ xs)) xs (λ next is. owed_right centre (x ∷ []) xs next is) (each_owed centre xs))

-- ---- what is left in them

-- Of a centre with this node, which had sent so many messages and had this pending: nothing goes out, and behind what was pending comes what
-- its node made of inputs, with answers to its client among the messages.
pub record Leaves (centre : ℕ) (node : NodeState) (sent : ℕ) (pending : Pending) (made : List (Result NodeStep StepFault)) (did : Doing) : Type 0 where
  pub mail : List Envelope
  pub inward : IsInward did.acts (length (steps_made made))
  pub pending_is : did.site.pending ≡ both_pending pending (pending_of (facts_added made) mail (outcomes_heard made))
  pub messages : between_centres mail ≡ between_centres (messages_sent made)
  pub owed : AllByRecursion (IsOwed centre (messages_sent made)) mail
  pub centre_is : did.site.centre ≡ centre
  pub node_is : did.site.node ≡ node_after node made
  pub sent_is : did.site.sent ≡ sent

abbrev pub LeavesOf : Site → List (Result NodeStep StepFault) → Doing → Type 0
LeavesOf site made did = Leaves site.centre site.node site.sent site.pending made did

-- the same of another, where they are equal
leaves_at : {centre other : ℕ} {node next : NodeState} {sent count : ℕ} {pending more : Pending} {made : List (Result NodeStep StepFault)} {did : Doing}
    → other ≡ centre → next ≡ node → count ≡ sent → more ≡ pending → Leaves other next count more made did → Leaves centre node sent pending made did
leaves_at {centre = centre} {other = other} {node = node} {next = next} {sent = sent} {count = count} {pending = pending} {more = more} {made = made} {did = did} a b c d leaves =
    subst (λ (p : Pending). Leaves centre node sent p made did) d
    (subst (λ (x : ℕ). Leaves centre node x more made did) c
    (subst (λ (n : NodeState). Leaves centre n count more made did) b (subst (λ (x : ℕ). Leaves x next count more made did) a leaves)))

pub leaves_then : {centre : ℕ} {node : NodeState} {sent : ℕ} {pending : Pending} {xs ys : List (Result NodeStep StepFault)} {first second : Doing}
    → Leaves centre node sent pending xs first → LeavesOf first.site ys second → Leaves centre node sent pending (xs ++ ys) (after_acts first.acts second)
leaves_then {centre = centre} {node = node} {sent = sent} {pending = pending} {xs = xs} {ys = ys} {first = first} {second = second} one later =
    let before : Pending = pending_of (facts_added xs) one.mail (outcomes_heard xs) in
    let two : Leaves centre (node_after node xs) sent (both_pending pending before) ys second =
    leaves_at one.centre_is one.node_is one.sent_is one.pending_is later in
    let messages : messages_sent (xs ++ ys) ≡ messages_sent xs ++ messages_sent ys = in_steps_joined (λ step. step.sends) xs ys in
    record {
      mail = one.mail ++ two.mail;
      inward = subst (λ (n : ℕ). IsInward (first.acts ++ second.acts) n)
          (sym (ap length (in_steps_joined (λ step. step ∷ []) xs ys) ∙ length-append (steps_made xs) (steps_made ys)))
          (sees_then one.inward two.inward);
      pending_is = two.pending_is
          ∙ (pending_assoc pending before (pending_of (facts_added ys) two.mail (outcomes_heard ys))
          ∙ ap (both_pending pending)
          (pendings_are (facts_added xs ++ facts_added ys) (facts_added (xs ++ ys)) (one.mail ++ two.mail) (one.mail ++ two.mail)
          (outcomes_heard xs ++ outcomes_heard ys) (outcomes_heard (xs ++ ys))
          (sym (in_steps_joined (λ step. listed step.fact) xs ys)) refl (sym (in_steps_joined (λ step. listed (heard_by step.fact)) xs ys))));
      messages = filter-append is_for_centre one.mail two.mail
          ∙ ap₂ (λ (x y : List Envelope). x ++ y) one.messages two.messages
          ∙ sym (filter-append is_for_centre (messages_sent xs) (messages_sent ys))
          ∙ ap between_centres (sym messages);
      owed = subst (λ (mail : List Envelope). AllByRecursion (IsOwed centre mail) (one.mail ++ two.mail)) (sym messages)
          (both_owed (IsOwed centre (messages_sent xs ++ messages_sent ys)) one.mail two.mail
          (all_owed (IsOwed centre (messages_sent xs)) (IsOwed centre (messages_sent xs ++ messages_sent ys)) one.mail
          (owed_left centre (messages_sent xs) (messages_sent ys)) one.owed)
          (all_owed (IsOwed centre (messages_sent ys)) (IsOwed centre (messages_sent xs ++ messages_sent ys)) two.mail
          (owed_right centre (messages_sent xs) (messages_sent ys)) two.owed));
      centre_is = two.centre_is;
      node_is = two.node_is ∙ sym (node_joined node xs ys);
      sent_is = two.sent_is;
    }

-- after acts of which nothing is seen
pub leaves_after : {centre : ℕ} {node : NodeState} {sent : ℕ} {pending : Pending} {made : List (Result NodeStep StepFault)} {acts : List Act} {did : Doing}
    → IsInward acts 0 → Leaves centre node sent pending made did → Leaves centre node sent pending made (after_acts acts did)
leaves_after {made = made} {acts = acts} {did = did} inward one = record {
  mail = one.mail;
  inward = subst (IsInward (acts ++ did.acts)) (let n = length (steps_made made) in let same : 0 + n ≡ n = omega arith in same) (sees_then inward one.inward);
  pending_is = one.pending_is;
  messages = one.messages;
  owed = one.owed;
  centre_is = one.centre_is;
  node_is = one.node_is;
  sent_is = one.sent_is;
}
