-- Every event keeps a cluster of nodes sound.
use Rattle.std.proofs.Common.{List, None, Option, Some, [], inl, inr, refl, subst, true, ℕ, ◌++◌, ◌==◌, ◌∷◌, ◌≡◌}
use Rattle.std.proofs.lemmas.Bool.{cases_Bool, eqb-true}
use Rattle.mdcc_base.specs.AreQuorums.{AreQuorums}
use Rattle.mdcc_option.specs.declared.cluster.Cluster.{Cluster}
use Rattle.mdcc_def_ledger.specs.Ledger.{Added, Entry, facts_of}
use Rattle.mdcc_def_messages.specs.declared.messages.Envelope.{Envelope}
use Rattle.mdcc_def_protocol.specs.Belongs.{is_centre}
use Rattle.mdcc_def_protocol.specs.Volatile.{Volatile, initial_volatile}
use Rattle.mdcc_def_rules.specs.Boot.{next_boot}
use Rattle.mdcc_def_rules.specs.declared.node.Input.{Input}
use Rattle.mdcc_def_server_runs.specs.Runs.{after_run, messages_sent, run_of_inputs}
use Rattle.mdcc_theorem_trace_states.specs.Invariant.{IsOf}
use Rattle.mdcc_theorem_trace_states.specs.MessageMeaning.{TrueWhenSent}
use Rattle.mdcc_theorem_trace_states.specs.Steps.{AreGood, IsFair, IsUp}
use Rattle.mdcc_theorem_trace_states.specs.Words.{Each}
use Rattle.mdcc_theorem_trace_states.proofs.Kept.{true-more}
use Rattle.mdcc_theorem_trace_states.proofs.Lists.{Each-append, Each-at, Each-like}
use Rattle.mdcc_theorem_commit_groups.proofs.Booting.{boots}
use Rattle.mdcc_theorem_commit_groups.proofs.Durable.{durable}
use Rattle.mdcc_theorem_commit_groups.proofs.Lasts.{last}
use Rattle.mdcc_theorem_commit_groups.specs.Groups.{IsGroup, IsSoundLedger, entries_made, node_at}
use Rattle.mdcc_theorem_commit_groups.specs.Nodes.{MayAllHappen, AreSound, NodeEvent, MayHappen, MayTakeInput, Member, Nodes, nodes_after_event, nodes_after_events, nodes_booted, no_nodes, nodes_released, input_taken_by, with_member}

module _ (also : List Entry → Type 0) (cluster : Cluster) where
  sound-of : (es : List Entry) (a : ℕ) (volatile : Volatile) → IsUp also cluster es a volatile → IsSoundLedger also cluster es
  sound-of es a volatile up = record { sizes = up.sizes; legal = up.legal; placed = up.placed; more = up.more }

  sent-more : (new es : List Entry) (sent : List Envelope) → Each (TrueWhenSent cluster es) sent → Each (TrueWhenSent cluster (new ++ es)) sent
  sent-more new es sent h = Each-like (TrueWhenSent cluster es) (TrueWhenSent cluster (new ++ es)) sent (λ m g. true-more cluster new es m g) h

  -- centre a adds these entries, if any, and is so afterwards
  pub moved : (nodes : Nodes) (a : ℕ) (new : List Entry) (sent : List Envelope) (member : Option Member) → AreSound also cluster nodes → Each (IsOf a) new
      → IsSoundLedger also cluster (new ++ nodes.ledger) → Each (TrueWhenSent cluster (new ++ nodes.ledger)) sent
      → ((m : Member) → member ≡ Some m → IsGroup also cluster (new ++ nodes.ledger) a m.volatile m.inputs)
      → AreSound also cluster (record { ledger = new ++ nodes.ledger; sent = sent; member = with_member nodes.member a member })
  moved nodes a new sent member h own sound told group = record { ledger = sound; sent = told; groups = each }
    where
      each : (b : ℕ) (m : Member) → with_member nodes.member a member b ≡ Some m → IsGroup also cluster (new ++ nodes.ledger) b m.volatile m.inputs
      each b m is =
          elim (cases_Bool (a == b)) [
            | inl e ↦
                let it : member ≡ Some m = rw e at is in
                subst (λ z. IsGroup also cluster (new ++ nodes.ledger) z m.volatile m.inputs) (eqb-true a b e) (group m it)
            | inr e ↦
                let it : nodes.member b ≡ Some m = rw e at is in
                last also cluster new nodes.ledger b a m.volatile m.inputs e own sound (h.groups b m it)
          ]

  some-same : {A : Type 0} (P : A → Type 0) (x : A) → P x → (y : A) → Some x ≡ Some y → P y
  some-same P x h y e = let s : x ≡ y = cc in subst P s h

  fair-given : (nodes : Nodes) (input : Input) → AreSound also cluster nodes → MayTakeInput cluster nodes input → IsFair cluster nodes.ledger input
  fair-given nodes (Input.Message envelope) h g = Each-at (TrueWhenSent cluster nodes.ledger) nodes.sent envelope h.sent g
  fair-given nodes (Input.Begin parts) h g = g
  fair-given nodes Input.Tick h g = tt
  fair-given nodes Input.Sweep h g = tt
  fair-given nodes (Input.Read key) h g = tt

  took : (nodes : Nodes) (a : ℕ) (input : Input) (o : Option Member) → nodes.member a ≡ o → AreSound also cluster nodes → MayTakeInput cluster nodes input → AreSound also cluster (input_taken_by nodes a input o)
  took nodes a input None is h g = h
  took nodes a input (Some member) is h g =
      let group = h.groups a member is in
      let more : IsGroup also cluster nodes.ledger a member.volatile (member.inputs ++ input ∷ []) = record {
        up = group.up;
        fair = Each-append (IsFair cluster nodes.ledger) member.inputs (input ∷ []) group.fair (fair-given nodes input h g, tt);
      } in
      moved nodes a [] nodes.sent (Some (record { volatile = member.volatile; inputs = member.inputs ++ input ∷ [] })) h tt h.ledger h.sent
      (some-same (λ (m : Member). IsGroup also cluster nodes.ledger a m.volatile m.inputs) (record { volatile = member.volatile; inputs = member.inputs ++ input ∷ [] }) more)

  let-out : AreGood also → (nodes : Nodes) (a : ℕ) (o : Option Member) → nodes.member a ≡ o → AreSound also cluster nodes → AreSound also cluster (nodes_released cluster nodes a o)
  let-out good nodes a None is h = h
  let-out good nodes a (Some member) is h =
      let node = node_at nodes.ledger a member.volatile in
      let made = run_of_inputs cluster a node member.inputs in
      let end = after_run cluster a node member.inputs in
      let d = durable also good cluster nodes.ledger a member.volatile member.inputs (h.groups a member is) in
      moved nodes a (entries_made a made) (nodes.sent ++ messages_sent made) (Some (record { volatile = end.volatile; inputs = [] })) h d.own
      (sound-of (entries_made a made ++ nodes.ledger) a end.volatile d.up)
      (Each-append (TrueWhenSent cluster (entries_made a made ++ nodes.ledger)) nodes.sent (messages_sent made) (sent-more (entries_made a made) nodes.ledger nodes.sent h.sent) d.sends)
      (some-same (λ (m : Member). IsGroup also cluster (entries_made a made ++ nodes.ledger) a m.volatile m.inputs) (record { volatile = end.volatile; inputs = [] })
      (record { up = d.up; fair = tt }))

  boot : AreGood also → (nodes : Nodes) (a : ℕ) → is_centre cluster a ≡ true → AreSound also cluster nodes → AreSound also cluster (nodes_booted nodes a)
  boot good nodes a centre h =
      let first = boots also good cluster nodes.ledger a centre h.ledger in
      moved nodes a (Added a (next_boot (facts_of nodes.ledger a)) ∷ []) nodes.sent (Some (record { volatile = initial_volatile; inputs = [] })) h (refl, tt)
      (sound-of (Added a (next_boot (facts_of nodes.ledger a)) ∷ nodes.ledger) a initial_volatile first.up)
      (sent-more (Added a (next_boot (facts_of nodes.ledger a)) ∷ []) nodes.ledger nodes.sent h.sent)
      (some-same (λ (m : Member). IsGroup also cluster (Added a (next_boot (facts_of nodes.ledger a)) ∷ nodes.ledger) a m.volatile m.inputs) (record { volatile = initial_volatile; inputs = [] }) first)

  crash : (nodes : Nodes) (a : ℕ) → AreSound also cluster nodes → AreSound also cluster (record { ledger = nodes.ledger; sent = nodes.sent; member = with_member nodes.member a None })
  crash nodes a h = moved nodes a [] nodes.sent None h tt h.ledger h.sent (λ m e. absurd (cc))

  pub event-sound : AreGood also → (nodes : Nodes) (event : NodeEvent) → AreSound also cluster nodes → MayHappen cluster nodes event → AreSound also cluster (nodes_after_event cluster nodes event)
  event-sound good nodes (NodeEvent.Boot a) h g =
      elim (cases_Bool (is_centre cluster a)) [ inl e ↦ rw e (boot good nodes a e h) | inr e ↦ rw e h ]
  event-sound good nodes (NodeEvent.Take a input) h g = took nodes a input (nodes.member a) refl h g
  event-sound good nodes (NodeEvent.Release a) h g = let-out good nodes a (nodes.member a) refl h
  event-sound good nodes (NodeEvent.Crash a) h g = crash nodes a h

  pub events-sound : AreGood also → (nodes : Nodes) (events : List NodeEvent) → AreSound also cluster nodes → MayAllHappen cluster nodes events → AreSound also cluster (nodes_after_events cluster nodes events)
  events-sound good nodes [] h g = h
  events-sound good nodes (event ∷ events) h g = events-sound good (nodes_after_event cluster nodes event) events (event-sound good nodes event h g.0) g.1

  pub start-sound : AreGood also → AreQuorums cluster.quorums → AreSound also cluster no_nodes
  start-sound good sizes = record {
    ledger = record { sizes = sizes; legal = tt; placed = λ k v b t a x g. absurd (cc); more = good.none };
    sent = tt;
    groups = λ a m e. absurd (cc);
  }
