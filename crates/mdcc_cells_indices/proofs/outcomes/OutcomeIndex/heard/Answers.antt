use Rattle.std.proofs.Common.{sym, ◌∙◌, arith}
use Rattle.mdcc_cells_indices.proofs.Endings.{answer-none, answer-some}
use Rattle.mdcc_cells_indices.proofs.outcomes.OutcomeIndex.heard.Goals as goal

pub returns-in-Some : goal.returns-in-Some
returns-in-Some c facts holds kept =
    answer-some c.args.cells.now.encodings c.args.self.now facts c.args.tx c.in-Some.number 8964 c.any_outcome_at.result holds kept (sym c.number_of.ensures.value ∙ c.in-Some.is)
    (omega arith) c.any_outcome_at.ensures

pub returns-in-None : goal.returns-in-None
returns-in-None c facts holds kept = sym (answer-none c.args.self.now facts c.args.tx kept (sym c.number_of.ensures.value ∙ c.in-None.is))
