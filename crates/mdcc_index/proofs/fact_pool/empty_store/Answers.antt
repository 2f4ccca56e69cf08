use Rattle.std.proofs.Common.{[]}
use Rattle.mdcc_index.proofs.Adding.{facts_in_cells}
use Rattle.mdcc_index.proofs.Empty.{cells-all, represents-none, room-for-all, size-for-all}
use Rattle.mdcc_index.proofs.fact_pool.empty_store.Goals as goal

pub invariant_of-result : goal.invariant_of-result
invariant_of-result c = record {
  facts = [];
  has =
      facts_in_cells _ [] (represents-none c.args.room.0 c.args.room.1 c.args.facts.0 c.args.facts.1 c.args.facts.2 c.args.instances.0 c.args.instances.1 c.args.instances.2 c.args.keys.0 c.args.keys.1
      c.requires.cells c.requires.outcomes c.requires.promises c.requires.instances c.requires.active c.requires.tallies c.requires.held c.requires.unresolved c.requires.counted c.requires.versions c.requires.listed);
  room =
      room-for-all c.args.room.0 c.args.room.1 c.args.facts.0 c.args.facts.1 c.args.facts.2 c.args.instances.0 c.args.instances.1 c.args.instances.2 c.args.keys.0 c.args.keys.1
      c.requires.cells c.requires.outcomes c.requires.promises c.requires.instances c.requires.active c.requires.tallies c.requires.held c.requires.unresolved c.requires.twice;
  size =
      size-for-all c.args.room.0 c.args.room.1 c.args.facts.0 c.args.facts.1 c.args.facts.2 c.args.instances.0 c.args.instances.1 c.args.instances.2 c.args.keys.0 c.args.keys.1
      c.requires.cells c.requires.outcomes c.requires.promises c.requires.instances c.requires.active c.requires.tallies c.requires.held c.requires.unresolved c.requires.twice;
}

pub returns-clause-empty : goal.returns-clause-empty
returns-clause-empty c =
    represents-none c.args.room.0 c.args.room.1 c.args.facts.0 c.args.facts.1 c.args.facts.2 c.args.instances.0 c.args.instances.1 c.args.instances.2 c.args.keys.0 c.args.keys.1
    c.requires.cells c.requires.outcomes c.requires.promises c.requires.instances c.requires.active c.requires.tallies c.requires.held c.requires.unresolved c.requires.counted c.requires.versions c.requires.listed

pub returns-clause-cells : goal.returns-clause-cells
returns-clause-cells c =
    cells-all c.args.room.0 c.args.room.1 c.args.facts.0 c.args.facts.1 c.args.facts.2 c.args.instances.0 c.args.instances.1 c.args.instances.2 c.args.keys.0 c.args.keys.1
    c.requires.cells c.requires.outcomes c.requires.promises c.requires.instances c.requires.active c.requires.tallies c.requires.held c.requires.unresolved
