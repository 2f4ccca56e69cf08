use Rattle.std.proofs.Common.{◌≤◌, ◌+◌, ◌*◌, List, ap, length, subst, sym, ◌∙◌}
use Rattle.mdcc_def_messages.specs.declared.facts.Fact.{Fact as AFact}
use Rattle.mdcc_cells_marked.specs.Marks.{MarkedTxs}
use Rattle.mdcc_given_back.specs.Compact.{compacted}
use Rattle.mdcc_given_back.specs.Counted.{without_floors}
use Rattle.mdcc_index.specs.Stores.{HasFactsInCells, Store, cells_in_all}
use Rattle.mdcc_facts_kept.specs.Kept.{IsKept, KeptRest}
use Rattle.mdcc_facts_kept.proofs.Compacted.{counted, kept-compacted}
use Rattle.mdcc_facts_kept.proofs.kept_facts.KeptFacts.exchange.Goals as goal

abbrev after : goal.After-swap-2 → KeptRest
after c = record { inner = c.swap.new.x; marked = c.swap-2.new.x; floors = c.self.inside.floors; cells = c.self.inside.cells }

has-pool : (c : goal.After-swap-2) (facts : List AFact) (kept : IsKept c.args.self.now facts) → HasFactsInCells c.swap.new.x (compacted facts (without_floors kept.rest))
has-pool c facts kept = subst (λ (pool : Store). HasFactsInCells pool (compacted facts (without_floors kept.rest))) (sym c.swap.ensures.x_after) (c.requires.pool facts kept)

after-kept : (c : goal.After-swap-2) (facts : List AFact) → IsKept c.args.self.now facts → IsKept (after c) facts
after-kept c facts kept =
    kept-compacted c.args.self.now (after c) facts kept (c.requires.floors facts kept) (has-pool c facts kept) (ap (λ (s : KeptRest). s.floors) c.self.view_is)
    (ap (λ (m : MarkedTxs). m.entries) c.swap-2.ensures.x_after ∙ c.requires.marked facts kept) (ap (λ (s : KeptRest). s.cells) c.self.view_is)

pub invariant_of-self : goal.invariant_of-self
invariant_of-self c = record {
  facts = c.self.invariant.facts;
  kept = after-kept c c.self.invariant.facts (subst (λ (s : KeptRest). IsKept s c.self.invariant.facts) c.self.view_is c.self.invariant.kept);
  size = ap cells_in_all c.swap.ensures.x_after ∙ c.requires.size ∙ sym (ap (λ (s : KeptRest). s.cells) c.self.view_is);
  marks =
      subst (λ (m : MarkedTxs). length m.entries + 6 * c.swap.new.x.cells.spare ≤ m.room) (sym c.swap-2.ensures.x_after)
      (subst (λ (pool : Store). length c.args.marked.now.entries + 6 * pool.cells.spare ≤ c.args.marked.now.room) (sym c.swap.ensures.x_after) c.requires.room);
  all_marks =
      subst (λ (m : MarkedTxs). 6 * c.self.inside.cells ≤ m.room) (sym c.swap-2.ensures.x_after)
      (subst (λ (s : KeptRest). 6 * s.cells ≤ c.args.marked.now.room) (sym c.self.view_is) c.requires.all_marks);
}

pub returns-clause-kept : goal.returns-clause-kept
returns-clause-kept c facts kept = after-kept c facts kept

pub returns-clause-counted : goal.returns-clause-counted
returns-clause-counted c facts kept = counted c.args.self.now (after c) facts kept (c.requires.floors facts kept) (has-pool c facts kept) (ap (λ (s : KeptRest). s.floors) c.self.view_is)
