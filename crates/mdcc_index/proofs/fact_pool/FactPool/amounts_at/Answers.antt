use Rattle.std.proofs.Common.{sym, subst, ap, ◌∙◌}
use Rattle.mdcc_index.specs.Stores.{Represents}
use Rattle.mdcc_index.proofs.Tied.{outcomes-below}
use Rattle.mdcc_index.proofs.fact_pool.FactPool.amounts_at.Goals as goal

pub added-requires : goal.added-requires
added-requires c = outcomes-below _ c.self.invariant.facts c.self.invariant.has

pub returns-else-tally : goal.returns-else-tally
returns-else-tally c facts kept =
    let inside = subst (λ s. Represents s facts) (sym c.self.view_is) kept in
    c.added.ensures facts inside.cells inside.outcomes
    ∙ sym ((inside.tallies c.args.key.now c.args.version).given (ap (λ tally. tally.adopted) (sym c.tally-tally.ensures) ∙ c.if-tally.false) c.args.tx)
