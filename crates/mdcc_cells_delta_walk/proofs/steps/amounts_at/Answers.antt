use Rattle.std.proofs.Common.{ap, ◌∙◌}
use Rattle.mdcc_cells_delta_walk.specs.Steps.{amounts_of}
use Rattle.mdcc_cells_delta_walk.proofs.Found.{amounts-are-found}
use Rattle.mdcc_cells_delta_walk.proofs.steps.amounts_at.Goals as goal

pub returns : goal.returns
returns c fact fits is =
    let key = c.args.key.now in
    c.amounts_of.ensures ∙ ap (amounts_of key c.args.version c.args.tx.now) (c.start.ensures ∙ is) ∙ amounts-are-found key c.args.version c.args.tx.now fact fits
