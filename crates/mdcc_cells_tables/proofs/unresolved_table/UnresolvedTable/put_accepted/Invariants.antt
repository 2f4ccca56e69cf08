use Rattle.std.proofs.Common.{◌≡◌, ◌+◌, ◌≤◌, drop, length}
use Rattle.std.specs.Prelude.{filter_map}
use Rattle.mdcc_def_protocol.specs.Facts.{write_set_of_mark}
use Rattle.mdcc_struct.specs.Maps.{txs_of}
use Rattle.mdcc_cells_tables.specs.UnresolvedNumbers.{with_all_unheard}
use Rattle.mdcc_cells_tables.proofs.unresolved_table.UnresolvedTable.put_accepted.Given as goal

abbrev pub invariant-loop-place : goal.invariant-loop-place
invariant-loop-place g l =
    (with_all_unheard (g.H.HeardTest.heard l.test) l.number l.self.entries (txs_of (filter_map write_set_of_mark (drop l.place l.options)))
    ≡ with_all_unheard (g.H.HeardTest.heard l.test) l.number l.initial.self.entries (txs_of (filter_map write_set_of_mark l.options)))
    × (length l.self.entries + length (filter_map write_set_of_mark (drop l.place l.options)) ≤ l.self.room)
    × (l.self.room ≡ l.initial.self.room)
