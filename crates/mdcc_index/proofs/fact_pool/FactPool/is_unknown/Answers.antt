use Rattle.std.proofs.Common.{sym, subst, ◌∙◌}
use Rattle.mdcc_index.specs.Stores.{Represents}
use Rattle.mdcc_index.proofs.Unvoted.{no-choice, not-true}
use Rattle.mdcc_index.proofs.fact_pool.FactPool.is_unknown.Goals as goal

pub returns-in-None : goal.returns-in-None
returns-in-None c facts kept unheard =
    let inside = subst (λ s. Represents s facts) (sym c.self.view_is) kept in
    no-choice _ facts c.args.tx inside (sym c.find.ensures.value ∙ c.in-None.is) (sym c.is_heard.ensures ∙ not-true c.is_heard.result unheard)
