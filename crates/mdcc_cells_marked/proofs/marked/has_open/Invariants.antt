use Rattle.std.proofs.Common.{◌<◌, List, length}
use Rattle.std.specs.Prelude.{IfSome}
use Rattle.mdcc_def_messages.specs.declared.facts.Fact.{Fact}
use Rattle.mdcc_cells_chains.proofs.Filtered.{rank}
use Rattle.mdcc_index.specs.Stores.{Represents}
use Rattle.mdcc_cells_marked.specs.Marks.{with_instances}
use Rattle.mdcc_cells_marked.proofs.Found.{IsLooking}
use Rattle.mdcc_cells_marked.proofs.marked.has_open.Given as goal

abbrev pub invariant-loop-at : goal.invariant-loop-at
invariant-loop-at l =
    IfSome l.at (λ entry. entry < length l.txs.keys)
    × ((facts : List Fact) → Represents l.pool facts → IsLooking facts l.tx (with_instances l.txs.keys l.instances) l.at)

abbrev pub decreases-loop-at : goal.decreases-loop-at
decreases-loop-at l = rank l.at
