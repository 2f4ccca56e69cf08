use Rattle.std.proofs.Common.{◌≡◌, sym, subst, ap, ◌∙◌}
use Rattle.std.specs.List.{filter, fold}
use Rattle.std.specs.Prelude.{IfOk, OnOk}
use Rattle.mdcc_theorem_fact_folds.specs.Chains.{is_of_instance}
use Rattle.mdcc_theorem_fact_folds.proofs.Joined.{votes-walk}
use Rattle.mdcc_cells_vote_walk.specs.Gathered.{oldest_marks, with_gathered}
use Rattle.mdcc_cells_vote_walk.proofs.GatheredVotes.{gathered-votes}
use Rattle.mdcc_cells_indices.specs.Entries.{is_any}
use Rattle.mdcc_index.specs.Stores.{Represents}
use Rattle.mdcc_index.proofs.Active.{any-kept}
use Rattle.mdcc_index.proofs.Reading.{ordered-filtered}
use Rattle.mdcc_index.proofs.Stepped.{votes-covered}
use Rattle.mdcc_index.proofs.Tied.{instances-below}
use Rattle.mdcc_index.proofs.fact_pool.FactPool.votes.Goals as goal

pub gather-requires : goal.gather-requires
gather-requires c = instances-below _ c.self.invariant.facts c.self.invariant.has

pub returns : goal.returns
returns c facts kept =
    let inside = subst (λ s. Represents s facts) (sym c.self.view_is) kept in
    let key = c.args.key.now in
    let version = c.args.version in
    let chain = filter (is_of_instance key version) facts in
    let gathered : c.gather.new.gathered ≡ fold (with_gathered key version c.args.ballot) c.new-gathered.result chain =
    subst (λ r. OnOk r (c.gather.new.gathered ≡ fold (with_gathered key version c.args.ballot) c.new-gathered.result (filter (is_of_instance key version) (filter is_any facts)))) c.in_ok-gather.was (c.gather.ensures is_any facts inside.cells inside.instances)
    ∙ ap (λ all. fold (with_gathered key version c.args.ballot) c.new-gathered.result (filter (is_of_instance key version) all)) (any-kept facts) in
    subst (λ all. IfOk c.joined.result (λ votes. votes ≡ all))
    (ap oldest_marks (gathered ∙ ap (λ none. fold (with_gathered key version c.args.ballot) none chain) c.new-gathered.ensures)
    ∙ gathered-votes key version c.args.ballot chain (ordered-filtered (is_of_instance key version) facts kept.added.ordered)
    ∙ sym (votes-walk (is_of_instance key version) key version c.args.ballot (votes-covered key version) facts))
    c.joined.ensures
