use Rattle.mdcc_cells_tables.proofs.Accepted.{offered-room}
use Rattle.mdcc_cells_tables.proofs.unresolved_table.UnresolvedTable.update.Goals as goal

pub put-requires : goal.put-requires
put-requires g c =
    rw c.put_accepted.ensures.room (offered-room (g.H.HeardTest.heard c.args.test.now) c.args.number c.args.self.now.entries c.put_accepted.new.self.entries c.args.self.now.room c.args.fact.now
    c.in-Voted.key c.in-Voted.version c.in-Voted.ballot c.in-Voted.options c.in-Voted.offered c.in-Some.choice c.in-Voted.is c.in-Some.is c.put_accepted.ensures.entries c.requires)
