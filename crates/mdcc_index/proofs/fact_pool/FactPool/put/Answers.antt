use Rattle.std.proofs.Common.{◌≡◌, ℕ, ◌∷◌, arith, length, length-append, ap, subst, sym, ◌∙◌}
use Rattle.std.proofs.lemmas.List.{length-map}
use Rattle.mdcc_base.specs.declared.key.Key.{Key}
use Rattle.mdcc_cells_tables.proofs.Entries.{keys-in_cells, transactions-in_cells}
use Rattle.mdcc_cells_indices.proofs.InCells.{instances-in_cells}
use Rattle.mdcc_cells_facts.proofs.Ticketed.{some-cells}
use Rattle.mdcc_theorem_fact_folds.specs.Entered.{instances_in}
use Rattle.mdcc_cells_indices.specs.Entries.{entries_in}
use Rattle.mdcc_index.specs.Stores.{HasFactsInCells, cells_in_all, store_of}
use Rattle.mdcc_index.proofs.Adding.{AddsFact, cells-same, has-more}
use Rattle.mdcc_index.proofs.fact_pool.FactPool.put.Goals as goal

pub add-requires-2 : goal.add-requires-2
add-requires-2 c =
    omega (arith, transactions-in_cells c.args.fact.now c.requires.can.may.well_formed, c.self.invariant.room.unresolved, c.add.ensures.used)

pub add-requires-5 : goal.add-requires-5
add-requires-5 c =
    omega (arith, instances-in_cells c.args.fact.now c.requires.can.may.well_formed, c.self.invariant.room.instances, c.add.ensures.used)

pub add_active-requires : goal.add_active-requires
add_active-requires c =
    omega (arith, instances-in_cells c.args.fact.now c.requires.can.may.well_formed, c.self.invariant.room.active, c.add.ensures.used)

pub add-requires-7 : goal.add-requires-7
add-requires-7 c =
    omega (arith, keys-in_cells c.args.fact.now c.requires.can.may.well_formed, c.self.invariant.room.held, c.add.ensures.used)

-- every part has the fact
adds : (c : goal.After-self-1)
    → AddsFact (store_of c.self.inside.cells c.self.inside.outcomes c.self.inside.promises c.self.inside.instances c.self.inside.active c.self.inside.tallies c.self.inside.held c.self.inside.unresolved c.self.inside.epoch)
    (store_of c.add.new.self c.add-3.new.self c.add-4.new.self c.add-5.new.self c.add_active.new.self c.add-6.new.self c.add-7.new.self c.add-2.new.self c.next_epoch-self-inside.result) c.args.fact.now c.len-number.result
adds c = record {
  number_is = c.len-number.ensures;
  cells = c.add.ensures.encodings;
  outcomes = c.add-3.ensures.heard;
  promises = c.add-4.ensures.promises;
  instances = c.add-5.ensures.entries;
  active = c.add_active.ensures.entries;
  tallies = c.add-6.ensures.tallies;
  held = c.add-7.ensures.holds;
  unresolved = c.add-2.ensures.lists;
  epoch = c.next_epoch-self-inside.ensures;
}

-- and as many cells as before
same-cells : (c : goal.After-self-1)
    → cells_in_all (store_of c.add.new.self c.add-3.new.self c.add-4.new.self c.add-5.new.self c.add_active.new.self c.add-6.new.self c.add-7.new.self c.add-2.new.self c.next_epoch-self-inside.result)
    ≡ cells_in_all (store_of c.self.inside.cells c.self.inside.outcomes c.self.inside.promises c.self.inside.instances c.self.inside.active c.self.inside.tallies c.self.inside.held c.self.inside.unresolved c.self.inside.epoch)
same-cells c =
    cells-same (store_of c.self.inside.cells c.self.inside.outcomes c.self.inside.promises c.self.inside.instances c.self.inside.active c.self.inside.tallies c.self.inside.held c.self.inside.unresolved c.self.inside.epoch)
    (store_of c.add.new.self c.add-3.new.self c.add-4.new.self c.add-5.new.self c.add_active.new.self c.add-6.new.self c.add-7.new.self c.add-2.new.self c.next_epoch-self-inside.result) c.args.fact.now c.add.ensures.encodings c.add.ensures.used

pub invariant_of-self : goal.invariant_of-self
invariant_of-self c =
    let had = subst (λ s. HasFactsInCells s c.requires.can.facts) (sym c.self.view_is) c.requires.can.has in
    let same = same-cells c in
    record {
      facts = c.args.fact.now ∷ c.requires.can.facts;
      has = has-more _ _ c.requires.can.facts c.args.fact.now c.len-number.result (adds c) c.requires.can.may had;
      room = record {
        outcomes = omega (arith, c.self.invariant.room.outcomes, c.add.ensures.used, c.add-3.ensures.few, c.add-3.ensures.room, some-cells c.args.fact.now);
        promises = omega (arith, c.self.invariant.room.promises, c.add.ensures.used, c.add-4.ensures.few, c.add-4.ensures.room, some-cells c.args.fact.now);
        instances = omega (
          arith,
          c.self.invariant.room.instances,
          c.add.ensures.used,
          ap length c.add-5.ensures.entries,
          length-append (entries_in c.args.fact.now c.len-number.result) c.self.inside.instances.entries,
          length-map {B = (Key × ℕ) × ℕ} (instances_in c.args.fact.now) (λ instance. (instance, c.len-number.result)),
          c.add-5.ensures.room,
          instances-in_cells c.args.fact.now c.requires.can.may.well_formed,
        );
        active = omega (arith, c.self.invariant.room.active, c.add.ensures.used, c.add_active.ensures.few, c.add_active.ensures.room, instances-in_cells c.args.fact.now c.requires.can.may.well_formed);
        tallies = omega (arith, c.self.invariant.room.tallies, c.add.ensures.used, c.add-6.ensures.few, c.add-6.ensures.room, some-cells c.args.fact.now);
        held = omega (arith, c.self.invariant.room.held, c.add.ensures.used, c.add-7.ensures.keys, c.add-7.ensures.room, keys-in_cells c.args.fact.now c.requires.can.may.well_formed);
        unresolved = omega (arith, c.self.invariant.room.unresolved, c.add.ensures.used, c.add-2.ensures.more, c.add-2.ensures.room, transactions-in_cells c.args.fact.now c.requires.can.may.well_formed);
      };
      size = record {
        outcomes = omega (arith, c.self.invariant.size.outcomes, same, c.add-3.ensures.room);
        promises = omega (arith, c.self.invariant.size.promises, same, c.add-4.ensures.room);
        instances = omega (arith, c.self.invariant.size.instances, same, c.add-5.ensures.room);
        active = omega (arith, c.self.invariant.size.active, same, c.add_active.ensures.room);
        tallies = omega (arith, c.self.invariant.size.tallies, same, c.add-6.ensures.room);
        held = omega (arith, c.self.invariant.size.held, same, c.add-7.ensures.room);
        unresolved = omega (arith, c.self.invariant.size.unresolved, same, c.add-2.ensures.room);
      };
    }

pub returns-clause-facts : goal.returns-clause-facts
returns-clause-facts c facts kept may =
    has-more _ _ facts c.args.fact.now c.len-number.result (adds c) may (subst (λ s. HasFactsInCells s facts) (sym c.self.view_is) kept)

pub returns-clause-cells : goal.returns-clause-cells
returns-clause-cells c = same-cells c ∙ ap cells_in_all c.self.view_is
