use Rattle.std.proofs.Common.{[], ap, refl, ◌∙◌}
use Rattle.mdcc_index.specs.Stores.{cells_in_all, store_of}
use Rattle.mdcc_index.proofs.Adding.{facts_in_cells}
use Rattle.mdcc_index.proofs.Cleared.{IsCleared, cells-kept, cleared-represents, cleared-room, cleared-size}
use Rattle.mdcc_index.proofs.fact_pool.FactPool.clear.Goals as goal

-- every part is empty
cleared : (c : goal.After-self-1)
    → IsCleared (store_of c.self.inside.cells c.self.inside.outcomes c.self.inside.promises c.self.inside.instances c.self.inside.active c.self.inside.tallies c.self.inside.held c.self.inside.unresolved c.self.inside.epoch)
    (store_of c.clear.new.self c.clear-2.new.self c.clear-3.new.self c.clear-4.new.self c.clear-5.new.self c.clear-6.new.self c.clear-7.new.self c.clear-8.new.self 0)
cleared c = record {
  encodings = ap (λ s. s.encodings) c.clear.ensures;
  spare = ap (λ s. s.spare) c.clear.ensures;
  txs = ap (λ o. o.txs.keys) c.clear-2.ensures;
  numbers = ap (λ o. o.numbers) c.clear-2.ensures;
  outcome_room = ap (λ o. o.txs.room) c.clear-2.ensures;
  keys = ap (λ p. p.keys.keys) c.clear-3.ensures;
  ranges = ap (λ p. p.ranges) c.clear-3.ensures;
  promise_room = ap (λ p. p.keys.room) c.clear-3.ensures;
  instances = ap (λ i. i.entries) c.clear-4.ensures;
  instance_room = ap (λ i. i.room) c.clear-4.ensures;
  active = ap (λ i. i.entries) c.clear-5.ensures;
  active_room = ap (λ i. i.room) c.clear-5.ensures;
  counted = c.clear-6.ensures.tallies;
  tallies = ap (λ t. t.instances.keys) c.clear-6.ensures.value;
  tally_room = ap (λ t. t.instances.room) c.clear-6.ensures.value;
  versions = c.clear-7.ensures.holds;
  held = ap (λ h. h.keys.keys) c.clear-7.ensures.value;
  held_room = ap (λ h. h.keys.room) c.clear-7.ensures.value;
  listed = c.clear-8.ensures.lists;
  unresolved = ap (λ u. u.entries) c.clear-8.ensures.value;
  unresolved_room = ap (λ u. u.room) c.clear-8.ensures.value;
  epoch = refl;
}

pub invariant_of-self : goal.invariant_of-self
invariant_of-self c = record {
  facts = [];
  has = facts_in_cells _ [] (cleared-represents _ _ (cleared c));
  room = cleared-room _ _ (cleared c) c.self.invariant.size;
  size = cleared-size _ _ (cleared c) c.self.invariant.size;
}

pub returns-clause-empty : goal.returns-clause-empty
returns-clause-empty c = cleared-represents _ _ (cleared c)

pub returns-clause-spare : goal.returns-clause-spare
returns-clause-spare c = ap (λ s. s.spare) c.clear.ensures ∙ ap cells_in_all c.self.view_is

pub returns-clause-cells : goal.returns-clause-cells
returns-clause-cells c = cells-kept _ _ (cleared c) ∙ ap cells_in_all c.self.view_is
