-- A well-formed fact has at most two entries for each cell in which it lies.
use Rattle.std.proofs.Common.{arith}
use Rattle.std.proofs.lemmas.List.{length-map}
use Rattle.mdcc_option.specs.declared.choices.Choice.{Choice}
use Rattle.mdcc_option.specs.declared.choices.Outcome.{Outcome}
use Rattle.mdcc_def_messages.specs.declared.facts.Fact.{Fact}
use Rattle.mdcc_cells_facts.proofs.Ticketed.{some-cells}
use Rattle.mdcc_theorem_fact_folds.specs.Entered.{instance_of}
use Rattle.mdcc_cells_tables.proofs.Entries.{keys-in_cells}
use Rattle.mdcc_cells_indices.specs.InCells.{InstancesInCells}

pub instances-in_cells : InstancesInCells
instances-in_cells (Fact.Booted epoch) fits = omega arith
instances-in_cells (Fact.Floor origin era upto) fits = omega arith
instances-in_cells (Fact.Promised key low high ballot) fits = omega arith
instances-in_cells (Fact.Voted key version ballot options offered) fits = omega (arith, some-cells (Fact.Voted key version ballot options offered))
instances-in_cells (Fact.Heard tx Outcome.Abort) fits = omega arith
instances-in_cells (Fact.Heard tx (Outcome.Commit choices)) fits =
    omega (arith, keys-in_cells (Fact.Heard tx (Outcome.Commit choices)) fits, length-map choices instance_of, length-map choices (λ (choice : Choice). choice.key))
instances-in_cells (Fact.Adopted key version item adds) fits = omega (arith, some-cells (Fact.Adopted key version item adds))
