use Rattle.std.proofs.Common.{◌≡◌, ◌≤◌, ◌<◌, None, length, set, sym, refl, arith, subst}
use Rattle.mdcc_cells_chains.specs.KeyTables.{index_of}
use Rattle.mdcc_cells_tables.specs.HeldVersions.{Versions}
use Rattle.mdcc_cells_tables.proofs.KeyPut.{length-new, none-past, table-new, table-there}
use Rattle.mdcc_cells_tables.proofs.held_table.HeldTable.put.Goals as goal

pub push_reserved-requires : goal.push_reserved-requires
push_reserved-requires c =
    let keys = c.self.inside.keys.keys in
    let past : length keys ≤ c.find_or_push-index.result = omega arith in
    let none : index_of keys c.args.key.now ≡ None = none-past keys c.args.key.now c.find_or_push-index.result c.find_or_push-index.ensures.index past in
    let room : length keys < c.self.inside.keys.room =
    subst (λ (table : Versions). index_of table.keys.keys c.args.key.now ≡ None → length table.keys.keys < table.keys.room) (sym c.self.view_is) c.requires none in
    omega arith

pub invariant_of-self-else-index-len : goal.invariant_of-self-else-index-len
invariant_of-self-else-index-len c =
    record {
      alike =
          length-new c.self.inside.keys.keys c.find_or_push-index.new.self.keys c.self.inside.held.items c.push_reserved.new.self.items c.args.key.now c.args.held
          c.find_or_push-index.result c.self.invariant.alike c.find_or_push-index.ensures.index (omega arith) c.find_or_push-index.ensures.keys c.push_reserved.ensures.items;
      capacity_for = omega (arith, c.find_or_push-index.ensures.room, c.push_reserved.ensures.capacity);
    }

pub returns-then-index-len-clause-held : goal.returns-then-index-len-clause-held
returns-then-index-len-clause-held c other =
    let old : Versions = record { keys = c.self.inside.keys; held = c.self.inside.held.items } in
    let held = set c.self.inside.held.items c.find_or_push-index.result c.args.held in
    table-there old (record { keys = c.find_or_push-index.new.self; held = held }) c.args.self.now c.args.key.now other c.args.held c.find_or_push-index.result c.self.view_is
    c.self.invariant.alike c.find_or_push-index.ensures.index (omega arith) c.find_or_push-index.ensures.keys refl

pub returns-else-index-len-clause-held : goal.returns-else-index-len-clause-held
returns-else-index-len-clause-held c other =
    let old : Versions = record { keys = c.self.inside.keys; held = c.self.inside.held.items } in
    table-new old (record { keys = c.find_or_push-index.new.self; held = c.push_reserved.new.self.items }) c.args.self.now c.args.key.now other c.args.held c.find_or_push-index.result c.self.view_is
    c.self.invariant.alike c.find_or_push-index.ensures.index (omega arith) c.find_or_push-index.ensures.keys c.push_reserved.ensures.items
