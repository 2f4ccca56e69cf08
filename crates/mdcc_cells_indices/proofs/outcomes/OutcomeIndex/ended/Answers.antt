use Rattle.std.proofs.Common.{sym, ap, option_map, ◌∙◌}
use Rattle.mdcc_def_protocol.specs.Marks.{is_commit}
use Rattle.mdcc_cells_indices.proofs.Endings.{answer-none, answer-commit}
use Rattle.mdcc_cells_indices.proofs.outcomes.OutcomeIndex.ended.Goals as goal

pub returns-in-Some-clause-ended : goal.returns-in-Some-clause-ended
returns-in-Some-clause-ended c facts holds kept =
    answer-commit c.args.cells.now.encodings c.args.self.now facts c.args.tx c.in-Some.number c.is_commit_at.result holds kept (sym c.number_of.ensures.value ∙ c.in-Some.is) c.is_commit_at.ensures

pub returns-in-None-clause-ended : goal.returns-in-None-clause-ended
returns-in-None-clause-ended c facts holds kept = sym (ap (option_map is_commit) (answer-none c.args.self.now facts c.args.tx kept (sym c.number_of.ensures.value ∙ c.in-None.is)))
