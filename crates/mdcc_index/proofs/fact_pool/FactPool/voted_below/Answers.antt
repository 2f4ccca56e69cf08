use Rattle.std.proofs.Common.{sym, ap, ◌∙◌}
use Rattle.std.specs.List.{filter}
use Rattle.mdcc_base.specs.Ballot.{fast_ballot}
use Rattle.mdcc_theorem_fact_folds.specs.Chains.{is_of_instance}
use Rattle.mdcc_theorem_fact_folds.proofs.Walked.{below-walk}
use Rattle.mdcc_theorem_fact_folds.specs.Votes.{with_voted_ballot}
use Rattle.mdcc_cells_indices.specs.Active.{is_active}
use Rattle.mdcc_index.proofs.Active.{fold-active, same-ballot}
use Rattle.mdcc_index.proofs.Stepped.{ballot-stepped, votes-covered}
use Rattle.mdcc_index.proofs.fact_pool.FactPool.voted_below.Goals as goal

pub returns : goal.returns
returns c facts kept =
    let key = c.args.key.now in
    let version = c.args.version in
    ap (λ s. s.ballot) (c.walk_active.ensures facts kept)
    ∙ ballot-stepped key version c.args.below fast_ballot (filter (is_of_instance key version) (filter is_active facts))
    ∙ fold-active (with_voted_ballot key version c.args.below) (λ ballot fact idle. same-ballot key version c.args.below ballot fact idle) (is_of_instance key version) fast_ballot facts
    ∙ sym (below-walk (is_of_instance key version) key version c.args.below (votes-covered key version) facts)
