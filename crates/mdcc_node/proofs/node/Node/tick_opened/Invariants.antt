use Rattle.std.proofs.Common.{◌≡◌, ◌++◌, List, ℕ, drop, fold}
use Rattle.mdcc_def_messages.specs.declared.facts.Fact.{Fact}
use Rattle.mdcc_node.specs.Represents.{RepresentsCentre}
use Rattle.mdcc_option.specs.declared.cluster.Cluster.{Cluster}
use Rattle.mdcc_def_protocol.specs.Volatile.{Volatile}
use Rattle.mdcc_def_rules.specs.Steps.{StepPart, part_and_then}
use Rattle.mdcc_def_rules.specs.TickRules.{manager_act, manager_ticked}
use Rattle.mdcc_node.proofs.node.Node.tick_opened.Given as goal
use Rattle.mdcc_def_rules.specs.Here.{here}

abbrev pub invariant-loop-act : goal.invariant-loop-act
invariant-loop-act g l = record {
  store : l.self.store ≡ l.fn.self.store;
  parts : (cluster : Cluster) (me : ℕ) (facts : List Fact) (volatile : Volatile) → RepresentsCentre g.S.FactStore.stands l.fn.self cluster me facts volatile
      → (part : StepPart)
      × (l.sends ≡ l.fn.sends ++ part.sends)
      × RepresentsCentre g.S.FactStore.stands l.self cluster me facts part.after
      × (fold (part_and_then (manager_act (here cluster me facts))) part (drop l.act-index l.act-items) ≡ manager_ticked (here cluster me facts) volatile);
}
