use Rattle.std.proofs.Common.{◌∷◌, subst, sym, ◌∙◌}
use Rattle.mdcc_index.specs.Stores.{Represents}
use Rattle.mdcc_index.proofs.Adding.{facts_in_cells, represents_more}
use Rattle.mdcc_index.proofs.pool_facts.PoolFacts.add.Goals as goal

pub put-requires-clause-can : goal.put-requires-clause-can
put-requires-clause-can c =
    let kept = c.self.invariant in
    let now = subst (λ s. Represents s kept.facts) c.self.view_is kept.represented in
    record { facts = kept.facts; has = facts_in_cells _ _ kept.represented; may = c.requires kept.facts now }

pub invariant_of-self : goal.invariant_of-self
invariant_of-self c =
    let kept = c.self.invariant in
    let now = subst (λ s. Represents s kept.facts) c.self.view_is kept.represented in
    record {
      facts = c.args.fact.now ∷ kept.facts;
      represented =
          represents_more _ _ kept.facts c.args.fact.now (c.put.ensures.facts kept.facts (facts_in_cells _ _ kept.represented) (c.requires kept.facts now))
          (sym (c.would_crowd.ensures kept.facts kept.represented) ∙ c.if-would_crowd.false) kept.represented;
    }

pub returns-clause-ok : goal.returns-clause-ok
returns-clause-ok c facts kept =
    let inside = subst (λ s. Represents s facts) (sym c.self.view_is) kept in
    represents_more _ _ facts c.args.fact.now (c.put.ensures.facts facts (facts_in_cells _ _ inside) (c.requires facts kept))
    (sym (c.would_crowd.ensures facts inside) ∙ c.if-would_crowd.false) inside
