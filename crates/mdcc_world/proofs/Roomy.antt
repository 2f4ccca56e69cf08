-- After its step a node is still over a store with the cells of the cluster, in which its facts had room.
use Rattle.std.proofs.Common.{◌≡◌, ◌∙◌, ℕ, List, Result, Ok, Err, sym}
use Rattle.mdcc_node_log.specs.Nodes.{CentreStore, IsNodeOf, are_stored, store_cells}
use Rattle.mdcc_def_messages.specs.declared.facts.Fact.{Fact}
use Rattle.mdcc_node.specs.Represents.{RepresentsCentre}
use Rattle.mdcc_node.specs.StepAnswers.{UnlessMemory, facts_left, volatile_left}
use Rattle.mdcc_node.specs.declared.node.Node.{Node}
use Rattle.mdcc_option.specs.declared.cluster.Cluster.{Cluster}
use Rattle.mdcc_def_protocol.specs.Volatile.{Volatile}
use Rattle.mdcc_def_rules.specs.Node.{step_of}
use Rattle.mdcc_def_rules.specs.declared.node.Input.{Input}
use Rattle.mdcc_def_rules.specs.declared.node.Step.{Step}
use Rattle.mdcc_def_rules.specs.declared.node.StepFault.{StepFault}
use Rattle.mdcc_def_rules.specs.Here.{here}
use Rattle.mdcc_def_rules.specs.Steps.{NodeStep}
use Rattle.mdcc_theorem_node_steps.proofs.Roomy.{room-stays}
use Rattle.mdcc_theorem_node_steps.specs.NodeInvariant.{FitInTurn}
use Rattle.mdcc_world.proofs.NodesStay.{unless-weaker}

module _ (node : Node CentreStore) (cluster : Cluster) (me : ℕ) (facts : List Fact) (volatile : Volatile) (is : IsNodeOf node cluster me facts volatile) where
  -- its facts still had room in turn
  fits-left : (input : Input) (r : Result NodeStep StepFault) → step_of (here cluster me facts) volatile input ≡ r → FitInTurn cluster (facts_left facts r)
  fits-left input (Ok step) made = room-stays cluster me facts volatile input step is.fits made
  fits-left input (Err fault) made = is.fits

  -- and it is over such a store afterwards
  pub node-left : (after : Node CentreStore) (input : Input) (r : Result NodeStep StepFault) → r ≡ step_of (here cluster me facts) volatile input
      → (result : Result Step StepFault) → store_cells after.store ≡ store_cells node.store
      → UnlessMemory result (RepresentsCentre are_stored after cluster me (facts_left facts r) (volatile_left volatile r))
      → UnlessMemory result (IsNodeOf after cluster me (facts_left facts r) (volatile_left volatile r))
  node-left after input r made result same left =
      unless-weaker result (λ itself. record { itself = itself; cells = same ∙ is.cells; fits = fits-left input r (sym made) }) left
