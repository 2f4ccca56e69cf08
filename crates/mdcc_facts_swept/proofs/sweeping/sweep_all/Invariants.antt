use Rattle.std.proofs.Common.{◌≡◌, List}
use Rattle.mdcc_def_messages.specs.declared.facts.Fact.{Fact}
use Rattle.mdcc_cells_chains.specs.Walks.{older}
use Rattle.mdcc_given_back.specs.Compact.{compacted}
use Rattle.mdcc_given_back.specs.Counted.{without_floors}
use Rattle.mdcc_index.specs.Stores.{cells_in_all}
use Rattle.mdcc_facts_kept.specs.Kept.{IsKept}
use Rattle.mdcc_facts_swept.specs.Swept.{HasHalf}
use Rattle.mdcc_facts_swept.proofs.sweeping.sweep_all.Given as goal

abbrev pub invariant-loop-number : goal.invariant-loop-number
invariant-loop-number l = record {
  same : l.kept ≡ l.initial.kept;
  size : cells_in_all l.next.pool ≡ cells_in_all l.initial.next.pool;
  written : (facts : List Fact) (is : IsKept l.kept facts) → HasHalf l.next (compacted facts (older l.number (without_floors is.rest)));
}
