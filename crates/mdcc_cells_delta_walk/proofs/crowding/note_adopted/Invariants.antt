use Rattle.std.proofs.Common.{◌≡◌, drop}
use Rattle.std.specs.List.{fold}
use Rattle.std.specs.Prelude.{map}
use Rattle.mdcc_struct.specs.Maps.{txs_of}
use Rattle.mdcc_cells_delta_walk.specs.Steps.{noted}
use Rattle.mdcc_cells_delta_walk.proofs.crowding.note_adopted.Given as goal

abbrev pub invariant-loop-delta : goal.invariant-loop-delta
invariant-loop-delta l =
    fold noted l.deltas (txs_of (map (λ delta. (delta.tx, delta.amounts)) (drop l.delta-index l.adds)))
    ≡ fold noted l.initial.deltas (txs_of (map (λ delta. (delta.tx, delta.amounts)) l.adds))
