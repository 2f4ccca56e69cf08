use Rattle.std.proofs.Common.{◌≡◌, length}
use Rattle.mdcc_facts.specs.Walks.{each_kept, is_next_tx, least_from}
use Rattle.mdcc_cells_vote_walk.proofs.tallies.least_from.Given as goal

abbrev pub invariant-loop-tx : goal.invariant-loop-tx
invariant-loop-tx l = least_from (is_next_tx each_kept l.last) l.least l.tags ≡ least_from (is_next_tx each_kept l.last) l.fn.found l.initial.tags

abbrev pub decreases-loop-tx : goal.decreases-loop-tx
decreases-loop-tx l = length l.tags
