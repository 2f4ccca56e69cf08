use Rattle.std.proofs.Common.{ap, ◌∙◌}
use Rattle.std.specs.Prelude.{if◌then◌else◌}
use Rattle.mdcc_cells_chains.specs.Keys.{instance_eq}
use Rattle.mdcc_cells_indices.specs.Tallies.{tally_in, with_adopted}
use Rattle.mdcc_cells_indices.proofs.tallies.Tallies.push_adopted.Goals as goal

pub returns-clause-tallies : goal.returns-clause-tallies
returns-clause-tallies c other =
    c.push.ensures.tallies other
    ∙ ap (λ tally. if instance_eq other c.args.instance then tally else tally_in c.args.self.now other) (c.with_adopted-tally.ensures ∙ ap with_adopted c.tally.ensures)
