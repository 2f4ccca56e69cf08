use Rattle.std.proofs.Common.{sym, ◌∙◌}
use Rattle.mdcc_theorem_fact_folds.specs.Chains.{is_of_instance}
use Rattle.mdcc_theorem_fact_folds.proofs.Present.{after-ballot}
use Rattle.mdcc_index.proofs.Stepped.{votes-covered}
use Rattle.mdcc_index.proofs.fact_pool.FactPool.next_mark.Goals as goal

pub returns : goal.returns
returns c facts kept =
    let key = c.args.key.now in
    let version = c.args.version in
    c.next_marked.ensures facts kept
    ∙ sym (after-ballot (is_of_instance key version) key version (votes-covered key version) facts c.args.ballot c.args.last)
