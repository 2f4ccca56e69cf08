use Rattle.std.proofs.Common.{List, None, length, ◌<◌}
use Rattle.std.specs.Prelude.{IfSome}
use Rattle.mdcc_base.specs.declared.key.Key.{Key}
use Rattle.mdcc_cells_chains.proofs.Filtered.{rank}
use Rattle.mdcc_cells_indices.specs.Promises.{ArePromisesListed, is_at, older_end_at}
use Rattle.mdcc_cells_indices.specs.declared.promises.Promise.{Promise}
use Rattle.mdcc_cells_indices.proofs.Folding.{IsFolding}
use Rattle.mdcc_cells_indices.proofs.promises.oldest_end.Given as goal

abbrev pub invariant-loop-at : goal.invariant-loop-at
invariant-loop-at l =
    IfSome l.at (λ index. index < length l.keys.keys)
    × ((entries : List (Key × Promise)) → ArePromisesListed l.keys.keys l.ranges entries → IsFolding (older_end_at l.version l.ballot) None (is_at l.key) entries l.at l.found)

abbrev pub decreases-loop-at : goal.decreases-loop-at
decreases-loop-at l = rank l.at
