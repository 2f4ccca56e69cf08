use Rattle.std.proofs.Common.{◌≡◌, ◌++◌, drop, map}
use Rattle.mdcc_world_decisions.specs.Decided.{instance_of_choice}
use Rattle.mdcc_world_decisions.proofs.decisions.instances_of.Given as goal

abbrev pub invariant-loop-choice : goal.invariant-loop-choice
invariant-loop-choice l = l.instances ++ map instance_of_choice (drop l.choice-index l.choices) ≡ map instance_of_choice l.choices
