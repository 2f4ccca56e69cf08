use Rattle.std.proofs.Common.{◌≡◌, ◌+◌, ◌++◌, ◌≤◌, drop, length, map}
use Rattle.mdcc_theorem_fact_folds.specs.Entered.{instance_of}
use Rattle.mdcc_cells_indices.specs.Entries.{instance_entries_at}
use Rattle.mdcc_cells_indices.proofs.instance_chains.InstanceChains.push_choices.Given as goal

abbrev pub invariant-loop-left : goal.invariant-loop-left
invariant-loop-left l = record {
  within : l.left ≤ length l.choices;
  fits : l.left + length l.self.entries ≤ l.self.room;
  room : l.self.room ≡ l.initial.self.room;
  entries : l.self.entries ≡ instance_entries_at (map instance_of (drop l.left l.choices)) l.number ++ l.initial.self.entries;
}

abbrev pub decreases-loop-left : goal.decreases-loop-left
decreases-loop-left l = l.left
