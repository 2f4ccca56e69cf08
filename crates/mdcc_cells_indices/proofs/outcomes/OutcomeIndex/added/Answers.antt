use Rattle.std.proofs.Common.{sym, ap, ◌∙◌}
use Rattle.mdcc_struct.specs.Maps.{value_of}
use Rattle.mdcc_cells_indices.specs.Heard.{deltas_given}
use Rattle.mdcc_cells_indices.proofs.Endings.{answer-added, answer-none}
use Rattle.mdcc_cells_indices.proofs.outcomes.OutcomeIndex.added.Goals as goal

pub returns-in-Some : goal.returns-in-Some
returns-in-Some c facts holds kept =
    answer-added c.args.cells.now.encodings c.args.self.now facts c.args.key.now c.args.version c.args.tx c.in-Some.number c.amounts_at.result holds kept (sym c.number_of.ensures.value ∙ c.in-Some.is) c.amounts_at.ensures

pub returns-in-None : goal.returns-in-None
returns-in-None c facts holds kept =
    sym (ap (λ heard. value_of (deltas_given c.args.key.now c.args.version heard) c.args.tx) (answer-none c.args.self.now facts c.args.tx kept (sym c.number_of.ensures.value ∙ c.in-None.is)))
