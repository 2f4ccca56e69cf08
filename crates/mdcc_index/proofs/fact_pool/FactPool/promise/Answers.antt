use Rattle.std.proofs.Common.{sym, subst, ap, ◌∙◌}
use Rattle.mdcc_base.specs.Ballot.{ballot_max}
use Rattle.mdcc_index.specs.Stores.{Represents}
use Rattle.mdcc_index.proofs.Barred.{promise-tallied}
use Rattle.mdcc_index.proofs.fact_pool.FactPool.promise.Goals as goal

pub returns : goal.returns
returns c facts kept =
    let inside = subst (λ s. Represents s facts) (sym c.self.view_is) kept in
    let key = c.args.key.now in
    let version = c.args.version in
    let voted = ap (λ tally. tally.ballot) c.tally-tally.ensures ∙ (inside.tallies key version).ballot in
    let promised = c.greatest-promised.ensures facts inside.promises in
    c.ballot_max.ensures ∙ (λ i. ballot_max (voted i) (promised i)) ∙ sym (promise-tallied facts key version)
