-- How many entries a fact has, by the cells in which it lies.
use Rattle.std.specs.Prelude.{◌*◌, ◌≤◌, length}
use Rattle.mdcc_def_messages.specs.Lengths.{cells_needed}
use Rattle.mdcc_def_messages.specs.WellFormed.{IsWellFormedFact}
use Rattle.mdcc_def_messages.specs.declared.facts.Fact.{Fact}
use Rattle.mdcc_theorem_fact_folds.specs.Entered.{instances_in}

abbrev pub InstancesInCells : Type 0
InstancesInCells = (fact : Fact) → IsWellFormedFact fact → length (instances_in fact) ≤ 2 * cells_needed fact
