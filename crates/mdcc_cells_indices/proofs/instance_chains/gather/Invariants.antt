use Rattle.std.proofs.Common.{◌≡◌, ◌<◌, Bool, List, length}
use Rattle.std.specs.Prelude.{IfSome}
use Rattle.mdcc_def_messages.specs.declared.facts.Fact.{Fact}
use Rattle.mdcc_cells_chains.proofs.Filtered.{rank}
use Rattle.mdcc_cells_facts.specs.Holding.{HoldsEncodings}
use Rattle.mdcc_cells_vote_walk.specs.Gathered.{with_gathered}
use Rattle.mdcc_cells_indices.specs.Entries.{beside, entries_kept}
use Rattle.mdcc_cells_indices.proofs.Walking.{IsWalking}
use Rattle.mdcc_cells_indices.proofs.instance_chains.gather.Given as goal

abbrev pub invariant-loop-at : goal.invariant-loop-at
invariant-loop-at l =
    IfSome l.at (λ entry. entry < length l.index.keys)
    × ((keep : Fact → Bool) (facts : List Fact) → HoldsEncodings l.cells.encodings facts → beside l.index.keys l.numbers ≡ entries_kept keep facts → IsWalking (with_gathered l.instance.0 l.instance.1 l.ballot) l.initial.gathered keep facts l.instance l.at l.gathered)

abbrev pub decreases-loop-at : goal.decreases-loop-at
decreases-loop-at l = rank l.at
