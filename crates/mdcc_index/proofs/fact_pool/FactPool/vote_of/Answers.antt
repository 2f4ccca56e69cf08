use Rattle.std.proofs.Common.{None, sym, ap, ◌∙◌}
use Rattle.std.specs.List.{filter}
use Rattle.mdcc_theorem_fact_folds.specs.Chains.{is_of_instance}
use Rattle.mdcc_theorem_fact_folds.proofs.Walked.{vote-walk}
use Rattle.mdcc_index.proofs.Stepped.{vote-stepped, votes-covered}
use Rattle.mdcc_index.proofs.fact_pool.FactPool.vote_of.Goals as goal

pub returns : goal.returns
returns c facts kept =
    let key = c.args.key.now in
    let version = c.args.version in
    ap (λ s. s.found) (c.walk.ensures facts kept)
    ∙ vote-stepped key version c.args.tx None (filter (is_of_instance key version) facts)
    ∙ sym (vote-walk (is_of_instance key version) key version c.args.tx (votes-covered key version) facts)
