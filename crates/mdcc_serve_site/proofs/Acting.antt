-- What the node of a centre makes of an input.
use Rattle.std.proofs.Common.{◌≡◌, ℕ, List, [], ◌∷◌, Option, Some, None, Result, Ok, Err, refl, ◌∙◌, subst, arith}
use Rattle.std.specs.List.{AllByRecursion}
use Rattle.std.specs.Prelude.{IfSome}
use Rattle.mdcc_base.specs.Unless.{GivesUnless}
use Rattle.mdcc_journal.specs.Counts.{HasCounts as FactHasCounts}
use Rattle.mdcc_node_log.proofs.NodeSteps.{step-of-node}
use Rattle.mdcc_node_log.specs.Nodes.{CentreStore, IsNodeOf, are_stored, store_cells}
use Rattle.mdcc_def_messages.specs.WellFormed.{IsWellFormedEnvelope, IsWellFormedFact, IsWellFormedMessage}
use Rattle.mdcc_def_messages.specs.declared.facts.Fact.{Fact}
use Rattle.mdcc_def_messages.specs.declared.messages.Envelope.{Envelope}
use Rattle.mdcc_def_messages.specs.declared.messages.Message.{Message}
use Rattle.mdcc_node.specs.MethodEffects.{Follows}
use Rattle.mdcc_node.specs.StepPlans.{unless_refused}
use Rattle.mdcc_node.specs.NodeHistory.{IsRunning}
use Rattle.mdcc_node.specs.Represents.{RepresentsAfter, RepresentsCentre}
use Rattle.mdcc_node.specs.StepAnswers.{IsInputGiven, UnlessMemory, step_result, is_step_memory, step_by}
use Rattle.mdcc_node.specs.declared.node.Node.{Node}
use Rattle.mdcc_option.specs.declared.cluster.Cluster.{Cluster}
use Rattle.mdcc_def_protocol.specs.Volatile.{Volatile}
use Rattle.mdcc_def_rules.specs.Here.{here}
use Rattle.mdcc_def_rules.specs.Node.{step_of}
use Rattle.mdcc_def_rules.specs.Steps.{NodeStep, step_given, with_new}
use Rattle.mdcc_def_rules.specs.declared.node.Input.{Input}
use Rattle.mdcc_def_rules.specs.declared.node.Step.{Step}
use Rattle.mdcc_def_rules.specs.declared.node.StepFault.{StepFault}
use Rattle.mdcc_def_server_runs.specs.Sites.{Site}
use Rattle.mdcc_serve_site.specs.SiteState.{Acted, CanBeSent, HasStepped, IsShortFact, IsSite}
use Rattle.mdcc_serve_site.specs.declared.site.Site.{Site as TheSite}
use Rattle.mdcc_theorem_node_steps.proofs.Roomy.{room-stays}
use Rattle.mdcc_theorem_node_steps.proofs.Unfloored.{allowed-unfloored, within-plain}
use Rattle.mdcc_theorem_node_steps.specs.NodeInvariant.{AddedFactIsShort, AddedFactIsWellFormed, CellsGiveRoom, FitInTurn, HasRoom, IsNode, NodeStays, SendsAreWellFormed}
use Rattle.mdcc_wire.specs.Counts.{HasMessageCounts}

-- what is known of any step
pub record StepLaws : Type 0 where
  pub fact : AddedFactIsWellFormed
  pub short : AddedFactIsShort
  pub sends : SendsAreWellFormed
  pub stays : NodeStays
  pub room : CellsGiveRoom
  pub fact_counts : (fact : Fact) → IsWellFormedFact fact → FactHasCounts fact
  pub message_counts : (message : Message) → IsWellFormedMessage message → HasMessageCounts message

pub running_is : (cluster : Cluster) (held : TheSite) (site : Site) → IsSite cluster held site → IsRunning are_stored held.node
running_is cluster held site is = record {
  cluster = cluster;
  me = site.centre;
  facts = site.node.facts;
  volatile = site.node.volatile;
  itself = is.node.itself;
  kept = is.kept;
}

-- ---- a node whose store has the cells of the cluster

module _ (node : Node CentreStore) (cluster : Cluster) (me : ℕ) (facts : List Fact) (volatile : Volatile) (is : IsNodeOf node cluster me facts volatile) (after : Node CentreStore)
    (same : store_cells after.store ≡ store_cells node.store)
  where
    -- it made this step
    node_stepped : (input : Input) (planned : NodeStep) → step_of (here cluster me facts) volatile input ≡ Ok planned
        → RepresentsCentre are_stored after cluster me (with_new facts planned.fact) planned.after → IsNodeOf after cluster me (with_new facts planned.fact) planned.after
    node_stepped input planned made left =
        record { itself = left; cells = same ∙ is.cells; fits = room-stays cluster me facts volatile input planned is.fits made }

    -- it refused an input
    node_refused : RepresentsCentre are_stored after cluster me facts volatile → IsNodeOf after cluster me facts volatile
    node_refused left = record { itself = left; cells = same ∙ is.cells; fits = is.fits }

-- the facts of a node are few enough for the votes that a promise reports
node_room : (cluster : Cluster) (me : ℕ) (facts : List Fact) (volatile : Volatile) → CellsGiveRoom → IsNode cluster me facts volatile → FitInTurn cluster facts → HasRoom facts
node_room cluster me facts volatile gives kept fits =
    let used = within-plain cluster facts (allowed-unfloored cluster facts kept.facts_themselves.allowed) fits in
    let most = kept.cluster_itself.cells in
    gives facts (omega (used, most, arith))

-- ---- what the caller is given

ok_given : (step : Step) (r : Result NodeStep StepFault) → Ok step ≡ step_result r → (s : NodeStep) × (r ≡ Ok s) × (step ≡ step_given s)
ok_given step (Ok s) h = let same : step ≡ step_given s = cc in (s, refl, same)
ok_given step (Err fault) h = absurd (cc)

err_given : (fault : StepFault) (r : Result NodeStep StepFault) → Err fault ≡ step_result r → r ≡ Err fault
err_given fault (Ok s) h = absurd (cc)
err_given fault (Err other) h = let same : fault ≡ other = cc in rw same refl

same_new : (facts : List Fact) (o : Option Fact) → with_new facts o ≡ with_new facts o
same_new facts None = refl
same_new facts (Some fact) = refl

-- ---- the step

module _ (laws : StepLaws) (cluster : Cluster) (held : TheSite) (site : Site) (is : IsSite cluster held site) (input : Input) (given_input : IsInputGiven input) (after : Node CentreStore)
    (cells : store_cells after.store ≡ store_cells held.node.store)
  where
    abbrev facts : List Fact
    facts = site.node.facts

    abbrev volatile : Volatile
    volatile = site.node.volatile

    fits : (step : NodeStep) → step_of (here cluster site.centre facts) volatile input ≡ Ok step → (o : Option Fact) → step.fact ≡ o → IfSome o IsShortFact
    fits step made None e = tt
    fits step made (Some fact) e =
        let formed = laws.fact cluster site.centre facts volatile input step fact is.kept given_input.0 made e in
        (laws.fact_counts fact formed, laws.short cluster site.centre facts volatile input step fact given_input.1 is.kept given_input.0 made e)

    all_sent : (xs : List Envelope) → AllByRecursion IsWellFormedEnvelope xs → AllByRecursion CanBeSent xs
    all_sent [] formed = tt
    all_sent (x ∷ xs) formed = (laws.message_counts x.message formed.0.message, all_sent xs formed.1)

    -- it stepped
    stepped : (planned : NodeStep) → step_of (here cluster site.centre facts) volatile input ≡ Ok planned
        → RepresentsCentre are_stored after cluster site.centre (with_new facts planned.fact) planned.after
        → HasStepped cluster (record held { node = after }) site planned
    stepped planned made left = record {
      node = node_stepped held.node cluster site.centre facts volatile is.node after cells input planned made left;
      kept = subst (λ (fs : List Fact). IsNode cluster site.centre fs planned.after) (same_new facts planned.fact)
          (laws.stays cluster site.centre facts volatile input planned is.kept given_input.0 made);
      centre = is.centre;
      sender = is.sender;
      clients = is.clients;
      own = is.own;
      asked = is.asked;
      waits = record { pending = is.waits.pending; all = is.waits.all; facts = is.waits.facts; envelopes = is.waits.envelopes };
      fact = fits planned made planned.fact refl;
      sends = all_sent planned.sends (laws.sends cluster site.centre facts volatile input planned
          (node_room cluster site.centre facts volatile laws.room is.kept is.node.fits) is.kept given_input.0 made);
    }

    -- it refused
    refused : RepresentsCentre are_stored after cluster site.centre facts volatile → IsSite cluster (record held { node = after }) site
    refused left = record {
      node = node_refused held.node cluster site.centre facts volatile is.node after cells left;
      kept = is.kept;
      centre = is.centre;
      sender = is.sender;
      clients = is.clients;
      own = is.own;
      asked = is.asked;
      waits = record { pending = is.waits.pending; all = is.waits.all; facts = is.waits.facts; envelopes = is.waits.envelopes };
    }

    module _ (step : Step) where
      refused_by : (fault : StepFault) (r : Result NodeStep StepFault) → Err fault ≡ step_result r
          → RepresentsAfter are_stored after cluster site.centre facts volatile r
          → (r ≡ Err fault) × IsSite cluster (record held { node = after }) site
      refused_by fault r gives left =
          let e = err_given fault r gives in
          (e, refused (subst (λ (x : Result NodeStep StepFault). RepresentsAfter are_stored after cluster site.centre facts volatile x) e left))

      acted_by : (r : Result NodeStep StepFault) → step_of (here cluster site.centre facts) volatile input ≡ r → (result : Result (Unit {0}) StepFault)
          → GivesUnless is_step_memory (unless_refused result step) (step_result r) → UnlessMemory (unless_refused result step) (RepresentsAfter are_stored after cluster site.centre facts volatile r)
          → Acted cluster (record held { node = after }) site r result step
      acted_by r made (Ok done) gives left =
          let s = ok_given step r gives in
          (s.0, s.1, s.2, stepped s.0 (made ∙ s.1) (subst (λ (x : Result NodeStep StepFault). RepresentsAfter are_stored after cluster site.centre facts volatile x) s.1 left))
      acted_by r made (Err StepFault.Memory) gives left = tt
      acted_by r made (Err StepFault.Foreign) gives left = refused_by StepFault.Foreign r gives left
      acted_by r made (Err (StepFault.NoRoom needed spare)) gives left = refused_by (StepFault.NoRoom needed spare) r gives left
      acted_by r made (Err StepFault.Crowded) gives left = refused_by StepFault.Crowded r gives left
      acted_by r made (Err StepFault.Exhausted) gives left = refused_by StepFault.Exhausted r gives left

      pub acted_as : (result : Result (Unit {0}) StepFault)
          → Follows are_stored held.node (unless_refused result step) after (λ cluster me facts volatile. step_by (store_cells held.node.store) cluster me facts volatile input)
          → Acted cluster (record held { node = after }) site (step_of (here cluster site.centre facts) volatile input) result step
      acted_as result follows =
          let roomy = step-of-node held.node cluster site.centre facts volatile is.node input in
          let gives = follows.answer cluster site.centre facts volatile is.node.itself in
          let left = follows.left cluster site.centre facts volatile is.node.itself in
          acted_by (step_of (here cluster site.centre facts) volatile input) refl result
          (subst (λ (r : Result NodeStep StepFault). GivesUnless is_step_memory (unless_refused result step) (step_result r)) roomy gives)
          (subst (λ (r : Result NodeStep StepFault). UnlessMemory (unless_refused result step) (RepresentsAfter are_stored after cluster site.centre facts volatile r)) roomy left)
