use Rattle.std.proofs.Common.{sym, subst, ap, ◌∙◌}
use Rattle.mdcc_index.specs.Stores.{Represents}
use Rattle.mdcc_index.proofs.fact_pool.FactPool.is_unvoted.Goals as goal

pub returns-else-tally : goal.returns-else-tally
returns-else-tally c facts kept unknown =
    let inside = subst (λ s. Represents s facts) (sym c.self.view_is) kept in
    (inside.tallies c.args.key.now c.args.version).known (ap (λ tally. tally.bare) (sym c.tally-tally.ensures) ∙ c.if-tally.false) c.args.tx (c.is_unknown.ensures facts kept unknown)
