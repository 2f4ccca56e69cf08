use Rattle.std.proofs.Common.{ap, ◌∙◌}
use Rattle.mdcc_cells_delta_walk.specs.Bases.{base_in}
use Rattle.mdcc_cells_delta_walk.proofs.BasesRead.{base-is-read}
use Rattle.mdcc_cells_delta_walk.proofs.bases.item_at.Goals as goal

pub returns : goal.returns
returns c = λ fact fits is.
    c.base_in.ensures ∙ ap (base_in c.args.key.now c.args.version) (c.start.ensures ∙ is) ∙ base-is-read c.args.key.now c.args.version fact fits
