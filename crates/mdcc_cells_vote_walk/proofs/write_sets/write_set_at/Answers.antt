use Rattle.std.proofs.Common.{ap, ◌∙◌}
use Rattle.mdcc_cells_vote_walk.specs.WriteSets.{write_set_in}
use Rattle.mdcc_cells_vote_walk.proofs.WriteSetsRead.{write-set-again}
use Rattle.mdcc_cells_vote_walk.proofs.write_sets.write_set_at.Goals as goal

pub returns : goal.returns
returns c fact fits is = c.write_set_in.ensures ∙ ap (write_set_in c.args.tx.now) is ∙ write-set-again c.args.tx.now fact fits
