use Rattle.std.proofs.Common.{◌≡◌, drop}
use Rattle.std.specs.List.{fold}
use Rattle.std.specs.Prelude.{filter_map}
use Rattle.mdcc_def_protocol.specs.Facts.{delta_given}
use Rattle.mdcc_struct.specs.Maps.{txs_of}
use Rattle.mdcc_cells_delta_walk.specs.Steps.{noted}
use Rattle.mdcc_cells_delta_walk.proofs.crowding.note_given.Given as goal

abbrev pub invariant-loop-choice : goal.invariant-loop-choice
invariant-loop-choice l =
    fold noted l.deltas (txs_of (filter_map (delta_given l.key l.version) (drop l.choice-index l.choices)))
    ≡ fold noted l.initial.deltas (txs_of (filter_map (delta_given l.key l.version) l.choices))
