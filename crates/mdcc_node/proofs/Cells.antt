-- What a store takes is what the protocol takes, where it has the cells of the cluster.
use Rattle.std.proofs.Common.{◌≡◌, ℕ, Bool, true, false, List, Option, Some, None, Ok, Err, Result, refl, if◌then◌else◌, nat_lt}
use Rattle.mdcc_node.specs.Laws.{StepsWithinCells}
use Rattle.mdcc_node.specs.StepAnswers.{if_added, if_fact_added, with_store}
use Rattle.mdcc_option.specs.declared.cluster.Cluster.{Cluster}
use Rattle.mdcc_def_messages.specs.Lengths.{cells_needed}
use Rattle.mdcc_def_protocol.specs.News.{is_crowding}
use Rattle.mdcc_def_rules.specs.Node.{cells_spare, checked_for_room, message_step, with_room}
use Rattle.mdcc_def_rules.specs.Steps.{NodeStep}
use Rattle.mdcc_def_messages.specs.declared.facts.Fact.{Fact}
use Rattle.mdcc_def_protocol.specs.declared.stores.StoreFault.{StoreFault}
use Rattle.mdcc_def_rules.specs.declared.node.Input.{Input}
use Rattle.mdcc_def_rules.specs.declared.node.StepFault.{StepFault}
use Rattle.mdcc_def_rules.specs.Here.{here}

crowded : (step : NodeStep) (facts : List Fact) (fact : Fact) (crowds : Bool)
    → if_added step (if crowds then Err StoreFault.Crowded else Ok tt) ≡ (if crowds then Err StepFault.Crowded else Ok step)
crowded step facts fact true = refl
crowded step facts fact false = refl

lacking : (step : NodeStep) (facts : List Fact) (fact : Fact) (needed spare : ℕ) (lacks : Bool)
    → if_added step (if lacks then Err (StoreFault.NoRoom needed spare) else (if is_crowding facts fact then Err StoreFault.Crowded else Ok tt))
    ≡ (if lacks then Err (StepFault.NoRoom needed spare) else (if is_crowding facts fact then Err StepFault.Crowded else Ok step))
lacking step facts fact needed spare true = refl
lacking step facts fact needed spare false = crowded step facts fact (is_crowding facts fact)

fact-alike : (cluster : Cluster) (facts : List Fact) (step : NodeStep) (fact : Option Fact)
    → if_fact_added cluster.cells facts step fact ≡ with_room cluster facts step fact
fact-alike cluster facts step None = refl
fact-alike cluster facts step (Some fact) =
    lacking step facts fact (cells_needed fact) (cells_spare cluster facts) (nat_lt (cells_spare cluster facts) (cells_needed fact))

store-alike : (cluster : Cluster) (facts : List Fact) (expected : Result NodeStep StepFault)
    → with_store cluster.cells facts expected ≡ checked_for_room cluster facts expected
store-alike cluster facts (Err fault) = refl
store-alike cluster facts (Ok step) = fact-alike cluster facts step step.fact

pub counted_steps : StepsWithinCells
counted_steps cluster me facts volatile (Input.Message envelope) =
    rw (store-alike cluster facts (message_step (here cluster me facts) volatile envelope.from envelope.message)) refl
counted_steps cluster me facts volatile Input.Tick = refl
counted_steps cluster me facts volatile Input.Sweep = refl
counted_steps cluster me facts volatile (Input.Read key) = refl
counted_steps cluster me facts volatile (Input.Begin parts) = refl
