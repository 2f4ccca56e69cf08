use Rattle.mdcc_def_messages.specs.Lengths.{cells_needed}
use Rattle.mdcc_def_protocol.specs.Cells.{cells_held}
use Rattle.mdcc_facts_kept.specs.Kept.{cells_occupied}
use Rattle.mdcc_facts_kept.proofs.More.{held-in-use, room-held}
use Rattle.mdcc_facts_kept.proofs.kept_facts.KeptFacts.room_for.Goals as goal

pub returns-else-spare-needed-clause-room : goal.returns-else-spare-needed-clause-room
returns-else-spare-needed-clause-room c facts kept ok =
    room-held (cells_needed c.args.fact.now) c.cells_needed-needed.result c.spare-spare.result c.args.self.now.cells (cells_occupied c.args.self.now) (cells_held facts)
    c.if-spare-needed.false c.cells_needed-needed.ensures c.spare-spare.ensures (held-in-use c.args.self.now facts kept)
