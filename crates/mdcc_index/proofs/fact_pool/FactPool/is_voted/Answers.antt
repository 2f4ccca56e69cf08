use Rattle.std.proofs.Common.{is_some, sym, ap, ◌∙◌}
use Rattle.mdcc_theorem_fact_folds.specs.Chains.{is_of_instance}
use Rattle.mdcc_theorem_fact_folds.proofs.Joined.{mark-walk}
use Rattle.mdcc_index.proofs.Stepped.{votes-covered}
use Rattle.mdcc_index.proofs.fact_pool.FactPool.is_voted.Goals as goal

pub returns : goal.returns
returns c facts kept =
    let key = c.args.key.now in
    let version = c.args.version in
    c.is_some.ensures
    ∙ ap is_some (c.mark_at.ensures facts kept ∙ sym (mark-walk (is_of_instance key version) key version c.args.ballot c.args.tx (votes-covered key version) facts))
