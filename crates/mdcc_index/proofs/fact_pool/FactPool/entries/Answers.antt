use Rattle.std.proofs.Common.{sym, subst, ap, ◌∙◌}
use Rattle.mdcc_index.specs.Stores.{Represents}
use Rattle.mdcc_index.proofs.fact_pool.FactPool.entries.Goals as goal

pub returns : goal.returns
returns c facts kept =
    let inside = subst (λ s. Represents s facts) (sym c.self.view_is) kept in
    ap (λ tally. (tally.accepts, tally.rejects)) c.tally-tally.ensures ∙ (inside.tallies c.args.key.now c.args.version).entries
