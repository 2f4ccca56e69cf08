use Rattle.std.proofs.Common.{◌≡◌, ap, ◌∙◌}
use Rattle.std.specs.List.{filter, fold}
use Rattle.mdcc_def_protocol.specs.Facts.{current_of}
use Rattle.mdcc_cells_delta_walk.specs.Steps.{deltas_step, no_deltas}
use Rattle.mdcc_cells_delta_walk.proofs.Walked.{executed-are-noted}
use Rattle.mdcc_index.proofs.Active.{active-chain, active-deltas, is_active_of}
use Rattle.mdcc_index.proofs.fact_pool.FactPool.executed.Goals as goal

pub returns : goal.returns
returns c facts kept =
    let key = c.args.key.now in
    let version = c.current-version.result in
    let is : version ≡ current_of facts key = c.current-version.ensures facts kept in
    ap (λ s. s.seen) (
    c.walk_active.ensures facts kept
    ∙ ap (fold deltas_step c.new-state.result) (active-chain key version facts)
    ∙ ap (λ s. fold deltas_step s (filter (is_active_of key version) facts)) c.new-state.ensures
    ∙ ap (λ v. fold deltas_step (no_deltas key v) (filter (is_active_of key v) facts)) is
    )
    ∙ executed-are-noted (is_active_of key (current_of facts key)) key facts (active-deltas key (current_of facts key)) (kept.few key)
