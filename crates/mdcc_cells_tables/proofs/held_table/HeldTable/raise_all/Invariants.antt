use Rattle.std.proofs.Common.{◌≡◌, ◌+◌, ◌≤◌, length, take}
use Rattle.mdcc_base.specs.declared.key.Key.{Key}
use Rattle.mdcc_cells_tables.specs.HeldVersions.{held_of, raised, version_among}
use Rattle.mdcc_cells_tables.proofs.held_table.HeldTable.raise_all.Given as goal

abbrev pub invariant-loop-choice : goal.invariant-loop-choice
invariant-loop-choice l =
    ((key : Key) → held_of l.self key ≡ raised (version_among key (take l.choice-index l.choices)) l.number (held_of l.initial.self key))
    × (length l.self.keys.keys ≤ length l.initial.self.keys.keys + l.choice-index)
    × (l.self.keys.room ≡ l.initial.self.keys.room)
