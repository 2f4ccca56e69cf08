-- A message comes to its centre.
use Rattle.std.proofs.Common.{◌≡◌, ℕ, zero, suc, ◌+◌, ◌-◌, ◌≤◌, Bool, true, false, List, refl, sym, ap, ◌∙◌, subst, inl, inr, Option, Some, None, Result, Ok, Err, arith, length}
use Rattle.std.specs.Option.{option_map}
use Rattle.std.proofs.lemmas.Bool.{cases_Bool}
use Rattle.mdcc_world_mail.specs.StoredMessages.{envelope_if_read}
use Rattle.mdcc_node.specs.StepAnswers.{step_result}
use Rattle.mdcc_def_messages.specs.WellFormed.{IsWellFormedEnvelope}
use Rattle.mdcc_def_messages.specs.Mailbox.{Sent, numbered, with_delivered}
use Rattle.mdcc_def_simulation.specs.State.{World, is_up_at}
use Rattle.mdcc_def_simulation.specs.AppliedSteps.{input_happened, step_at}
use Rattle.mdcc_def_messages.specs.declared.messages.Envelope.{Envelope}
use Rattle.mdcc_def_rules.specs.declared.node.Input.{Input}
use Rattle.mdcc_def_rules.specs.declared.node.Step.{Step}
use Rattle.mdcc_def_rules.specs.declared.node.StepFault.{StepFault}
use Rattle.mdcc_def_language.specs.declared.world.EventFault.{EventFault}
use Rattle.mdcc_world.proofs.Counted.{up-centre, up-within}
use Rattle.mdcc_world.proofs.Took.{input-counted}
use Rattle.mdcc_world.specs.NodeRuns.{HasRun, HasRunMessage}
use Rattle.mdcc_world.specs.Nodes.{NodesRepresent}
use Rattle.mdcc_world.specs.Represents.{IsLike}
use Rattle.mdcc_world.specs.declared.world.World.{World as TheWorld}
use Rattle.mdcc_theorem_node_steps.specs.NodeInvariant.{accept_length}
use Rattle.mdcc_theorem_worlds.proofs.Numbers.{each-numbered}
use Rattle.mdcc_theorem_worlds.proofs.Stays.{delivered-stays, some-centre}
use Rattle.mdcc_theorem_worlds.specs.DeliveryProgress.{at_message, after_sent_message, message_by, message_counted}
use Rattle.mdcc_theorem_worlds.specs.EventEffects.{at_centre}
use Rattle.mdcc_theorem_worlds.specs.WorldInvariant.{IsSentWithin, IsWorld}

-- the message that was sent under a number, to a centre that is up
pub record IsSentAs (w : World) (number : ℕ) (envelope : Envelope) : Type 0 where
  pub sent : Sent
  pub there : numbered w.sent number ≡ Some sent
  pub same : sent.envelope ≡ envelope
  pub up : is_up_at w envelope.to ≡ true

numbered-some : {X : Type 0} (xs : List X) (number : ℕ) (x : X) → numbered xs number ≡ Some x → 1 ≤ number
numbered-some xs zero x e = absurd (cc)
numbered-some xs (suc n) x e = omega arith

-- numbers count from 1
pub some-number : (w : World) (number : ℕ) (envelope : Envelope) → IsSentAs w number envelope → 1 ≤ number
some-number w number envelope is = numbered-some w.sent number is.sent is.there

up-addressee : (w : World) (number : ℕ) (sent : Sent) → numbered w.sent number ≡ Some sent → at_message w number ≡ Ok tt → is_up_at w sent.envelope.to ≡ true
up-addressee w number sent e clear = elim (cases_Bool (is_up_at w sent.envelope.to)) [
  | inl up ↦ up
  | inr down ↦
      let here : message_by w number (Some sent) ≡ Ok tt = ap (λ (o : Option Sent). message_by w number o) (sym e) ∙ clear in
      let bad : Err (EventFault.Down sent.envelope.to) ≡ Ok tt = rw down at here in absurd (cc)
]

-- what was read, where it is there
pub read-there : (is_there : Bool) (envelope : Envelope) (o : Option Envelope) → is_there ≡ true → envelope_if_read is_there envelope ≡ o → Some envelope ≡ o
read-there true envelope o some is = is
read-there false envelope o some is = absurd (cc)

pub some-sent : (w : World) (number : ℕ) (envelope : Envelope) (network : List Sent) → network ≡ w.sent → at_message w number ≡ Ok tt
    → Some envelope ≡ option_map (λ (sent : Sent). sent.envelope) (numbered network number) → IsSentAs w number envelope
some-sent w number envelope network are clear some = by_sent (numbered w.sent number) refl
  where
    here : Some envelope ≡ option_map (λ (sent : Sent). sent.envelope) (numbered w.sent number)
    here = some ∙ ap (λ (xs : List Sent). option_map (λ (sent : Sent). sent.envelope) (numbered xs number)) are

    by_sent : (o : Option Sent) → numbered w.sent number ≡ o → IsSentAs w number envelope
    by_sent None e =
        let none : Some envelope ≡ None = here ∙ ap (λ (o : Option Sent). option_map (λ (sent : Sent). sent.envelope) o) e in absurd (cc)
    by_sent (Some sent) e =
        let is : Some envelope ≡ Some sent.envelope = here ∙ ap (λ (o : Option Sent). option_map (λ (sent : Sent). sent.envelope) o) e in
        let same : sent.envelope ≡ envelope = cc in
        record {
          sent = sent;
          there = e;
          same = same;
          up = subst (λ (x : Envelope). is_up_at w x.to ≡ true) same (up-addressee w number sent e clear);
        }

module _ (world : TheWorld) (w : World) (number : ℕ) (envelope : Envelope) (like : IsLike world w) (is : IsSentAs w number envelope) where
  pub sent-formed : IsWellFormedEnvelope envelope
  sent-formed = subst (λ (e : Envelope). IsWellFormedEnvelope e) is.same (each-numbered (IsSentWithin w.cluster) w.sent number is.sent like.records.itself.sent is.there).envelope_itself

  pub sent-short : accept_length envelope.message ≤ 2097152
  sent-short = subst (λ (e : Envelope). accept_length e.message ≤ 2097152) is.same (each-numbered (IsSentWithin w.cluster) w.sent number is.sent like.records.itself.sent is.there).short

  pub sent-node : envelope.to ≤ length world.nodes.items
  sent-node = up-within world.nodes.items w envelope.to like.nodes is.up

  pub sent-centre : (1 ≤ envelope.to) × (envelope.to ≤ w.cluster.quorums.centres)
  sent-centre = some-centre w.cluster envelope.to (up-centre w envelope.to is.up)

  pub counted-world : IsWorld (message_counted w number)
  counted-world = delivered-stays w (number - 1) (w.events + 1) (omega arith) like.records.itself

  pub counted-nodes : NodesRepresent world.nodes.items (message_counted w number)
  counted-nodes = record { as_many = like.nodes.as_many; each = like.nodes.each }

  made-there : (new : TheWorld) (made : Result Step StepFault)
      → new ≡ record world { nodes = new.nodes; network = new.network; events = world.events + 1; envelope = new.envelope }
      → new.network ≡ with_delivered world.network (number - 1)
      → made ≡ step_result (step_at (message_counted w number) envelope.to (Input.Message envelope))
      → NodesRepresent new.nodes.items (input_happened (message_counted w number) envelope.to (step_at (message_counted w number) envelope.to (Input.Message envelope))).world
      → HasRun new (message_counted w number) envelope.to (Input.Message envelope) made
  made-there new made rest network itself nodes =
      let after = message_counted w number in
      let few = like.records.few_reads in
      record {
        before = record {
          records = record {
            itself = counted-world;
            cluster = ap (λ (x : TheWorld). x.cluster) rest ∙ like.records.cluster;
            network = network ∙ ap (λ (sent : List Sent). with_delivered sent (number - 1)) like.records.network;
            bytes = ap (λ (x : TheWorld). x.bytes) rest ∙ like.records.bytes;
            reads = ap (λ (x : TheWorld). x.reads) rest ∙ like.records.reads;
            few_reads = omega (few, arith);
            events = ap (λ (x : TheWorld). x.events) rest ∙ ap (λ (n : ℕ). n + 1) like.records.events;
            ups = rw rest like.records.ups;
            stops = rw rest like.records.stops;
          };
          centre = up-centre w envelope.to is.up;
          up = is.up;
          well_formed = sent-formed;
          short = sent-short;
          decisions = rw rest (input-counted world.decisions after envelope.to (Input.Message envelope) counted-world sent-formed refl like.decisions);
          logs = rw rest like.logs;
          tails = rw rest like.tails;
          step_itself = itself;
        };
        nodes = nodes;
      }

  -- the centre that the code finds is the one to which the message goes
  pub message-made : (new : TheWorld) (a : ℕ) (made : Result Step StepFault) → a ≡ envelope.to
      → new ≡ record world { nodes = new.nodes; network = new.network; events = world.events + 1; envelope = new.envelope }
      → new.network ≡ with_delivered world.network (number - 1)
      → made ≡ step_result (step_at (message_counted w number) a (Input.Message envelope))
      → NodesRepresent new.nodes.items (input_happened (message_counted w number) a (step_at (message_counted w number) a (Input.Message envelope))).world
      → HasRunMessage new w number a made
  message-made new a made same rest network =
      subst (λ (x : ℕ).
      made ≡ step_result (step_at (message_counted w number) x (Input.Message envelope))
      → NodesRepresent new.nodes.items (input_happened (message_counted w number) x (step_at (message_counted w number) x (Input.Message envelope))).world
      → HasRunMessage new w number x made) (sym same)
      (λ itself nodes. record {
        envelope = envelope;
        itself = made-there new made rest network itself nodes;
        comes = ap (λ (o : Option Sent). after_sent_message w number o) is.there ∙ subst (λ (e : Envelope). after_sent_message w number (Some is.sent) ≡ after_sent_message w number (Some (record is.sent { envelope = e }))) is.same refl;
      })

-- to whom a message goes
pub addressee-within : (w : World) (number a : ℕ) (network : List Sent) → IsWorld w → network ≡ w.sent
    → Some a ≡ option_map (λ (sent : Sent). sent.envelope.to) (numbered network number) → (1 ≤ a) × (a ≤ 9)
addressee-within w number a network world are some = by_sent (numbered w.sent number) refl
  where
    here : Some a ≡ option_map (λ (sent : Sent). sent.envelope.to) (numbered w.sent number)
    here = some ∙ ap (λ (xs : List Sent). option_map (λ (sent : Sent). sent.envelope.to) (numbered xs number)) are

    by_sent : (o : Option Sent) → numbered w.sent number ≡ o → (1 ≤ a) × (a ≤ 9)
    by_sent None e =
        let none : Some a ≡ None = here ∙ ap (λ (o : Option Sent). option_map (λ (sent : Sent). sent.envelope.to) o) e in absurd (cc)
    by_sent (Some sent) e =
        let is : Some a ≡ Some sent.envelope.to = here ∙ ap (λ (o : Option Sent). option_map (λ (sent : Sent). sent.envelope.to) o) e in
        let same : a ≡ sent.envelope.to = cc in
        let both = some-centre w.cluster sent.envelope.to (each-numbered (IsSentWithin w.cluster) w.sent number sent world.sent e).within in
        let nine = world.cluster_itself.quorums.nine_centres in
        let some = both.0 in
        let few = both.1 in
        (omega (same, some, arith), omega (same, few, nine, arith))

-- why nothing is delivered to it
pub addressee-at : (w : World) (number a : ℕ) (network : List Sent) → network ≡ w.sent
    → Some a ≡ option_map (λ (sent : Sent). sent.envelope.to) (numbered network number) → at_centre w a ≡ at_message w number
addressee-at w number a network are some = by_sent (numbered w.sent number) refl
  where
    here : Some a ≡ option_map (λ (sent : Sent). sent.envelope.to) (numbered w.sent number)
    here = some ∙ ap (λ (xs : List Sent). option_map (λ (sent : Sent). sent.envelope.to) (numbered xs number)) are

    by_sent : (o : Option Sent) → numbered w.sent number ≡ o → at_centre w a ≡ at_message w number
    by_sent None e =
        let none : Some a ≡ None = here ∙ ap (λ (o : Option Sent). option_map (λ (sent : Sent). sent.envelope.to) o) e in absurd (cc)
    by_sent (Some sent) e =
        let is : Some a ≡ Some sent.envelope.to = here ∙ ap (λ (o : Option Sent). option_map (λ (sent : Sent). sent.envelope.to) o) e in
        let same : a ≡ sent.envelope.to = cc in
        ap (λ (n : ℕ). at_centre w n) same ∙ sym (ap (λ (o : Option Sent). message_by w number o) e)
