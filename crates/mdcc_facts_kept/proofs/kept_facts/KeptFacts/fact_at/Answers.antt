use Rattle.std.proofs.Common.{subst, sym}
use Rattle.mdcc_given_back.specs.Counted.{without_floors}
use Rattle.mdcc_index.specs.Stores.{Represents}
use Rattle.mdcc_index.proofs.Adding.{facts_in_cells}
use Rattle.mdcc_facts_kept.specs.Kept.{KeptRest}
use Rattle.mdcc_facts_kept.proofs.kept_facts.KeptFacts.fact_at.Goals as goal

pub returns-clause-fact : goal.returns-clause-fact
returns-clause-fact c facts kept =
    c.fact_at.ensures.fact (without_floors kept.rest)
    (facts_in_cells c.self.inside.inner (without_floors kept.rest) (subst (λ (s : KeptRest). Represents s.inner (without_floors kept.rest)) (sym c.self.view_is) kept.inner))
