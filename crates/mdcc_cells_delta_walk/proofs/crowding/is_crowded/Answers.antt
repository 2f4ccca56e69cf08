use Rattle.std.proofs.Common.{ap, ◌∙◌}
use Rattle.std.specs.List.{fold}
use Rattle.std.specs.Prelude.{nat_lt}
use Rattle.mdcc_cells_delta_walk.specs.Steps.{deltas_step, encoding_noted}
use Rattle.mdcc_cells_delta_walk.proofs.Crowded.{crowded-chain, executed-steps}
use Rattle.mdcc_cells_delta_walk.proofs.crowding.is_crowded.Goals as goal

pub returns-clause-chain : goal.returns-clause-chain
returns-clause-chain c = λ facts of.
    let fact = c.args.fact.now in
    ap (λ s. s.crowded) (c.note_walk.ensures ∙ ap (λ s. fold encoding_noted s c.args.walk) (c.note_fact.ensures ∙ ap (λ s. deltas_step s fact) c.new-deltas.ensures))
    ∙ crowded-chain c.args.instance.now.0 c.args.instance.now.1 c.args.walk facts fact of

pub returns-clause-steps : goal.returns-clause-steps
returns-clause-steps c = λ facts of ordered.
    let fact = c.args.fact.now in
    ap (λ s. s.crowded) (c.note_walk.ensures ∙ ap (λ s. fold encoding_noted s c.args.walk) (c.note_fact.ensures ∙ ap (λ s. deltas_step s fact) c.new-deltas.ensures))
    ∙ crowded-chain c.args.instance.now.0 c.args.instance.now.1 c.args.walk facts fact of
    ∙ ap (nat_lt 64) (executed-steps c.args.instance.now.0 c.args.instance.now.1 c.args.walk facts fact of ordered)
