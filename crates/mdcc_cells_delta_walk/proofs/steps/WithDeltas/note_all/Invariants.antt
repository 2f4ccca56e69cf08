use Rattle.std.proofs.Common.{◌≡◌, length}
use Rattle.std.specs.List.{fold}
use Rattle.mdcc_struct.specs.Maps.{txs_of}
use Rattle.mdcc_cells_delta_walk.specs.Entries.{left_in}
use Rattle.mdcc_cells_delta_walk.specs.Steps.{noted}
use Rattle.mdcc_cells_delta_walk.proofs.steps.WithDeltas.note_all.Given as goal

abbrev pub invariant-loop-tx : goal.invariant-loop-tx
invariant-loop-tx l = fold noted l.self (txs_of (left_in l.entries)) ≡ fold noted l.initial.self (txs_of (left_in l.initial.entries))

abbrev pub decreases-loop-tx : goal.decreases-loop-tx
decreases-loop-tx l = length (left_in l.entries)
