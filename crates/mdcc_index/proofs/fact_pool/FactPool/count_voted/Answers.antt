use Rattle.std.proofs.Common.{◌≡◌, ◌≤◌, length, ap, ◌∙◌, arith}
use Rattle.std.specs.List.{filter, fold}
use Rattle.std.specs.Prelude.{◌-◌, ◌^◌, is_some}
use Rattle.mdcc_struct.specs.Maps.{value_of}
use Rattle.mdcc_def_protocol.specs.Facts.{votes_of}
use Rattle.mdcc_def_protocol.specs.Stores.{count_voted}
use Rattle.mdcc_facts.proofs.Counting.{number-within}
use Rattle.mdcc_theorem_fact_folds.specs.Chains.{is_of_instance}
use Rattle.mdcc_theorem_fact_folds.specs.Live.{with_count}
use Rattle.mdcc_theorem_fact_folds.proofs.Once.{count-fold}
use Rattle.mdcc_index.proofs.Stepped.{count-stepped, count-stopped, votes-covered}
use Rattle.mdcc_index.proofs.fact_pool.FactPool.count_voted.Goals as goal

pub returns : goal.returns
returns c facts kept =
    let key = c.args.key.now in
    let version = c.args.version in
    let ballot = c.args.ballot in
    let options = c.args.options.now in
    let chain = filter (is_of_instance key version) facts in
    let folded : count_voted facts key version ballot options ≡ fold (with_count key version ballot options) 0 chain =
    count-fold (is_of_instance key version) key version ballot options (votes-covered key version) facts kept.added.voted in
    let few : count_voted facts key version ballot options ≤ length options = number-within (λ e. is_some (value_of (votes_of facts key version ballot) e.0)) options in
    let stopped = count-stopped key version ballot options (2 ^ 64 - 1) 0 chain in
    ap (λ s. s.count) (c.walk.ensures facts kept)
    ∙ count-stepped key version ballot options c.args.options 0 chain
    ∙ stopped
    ∙ omega (arith, folded, few, c.len-most.ensures.value, c.len-most.type_inv)
