use Rattle.std.proofs.Common.{ap, ◌∙◌}
use Rattle.std.specs.List.{fold}
use Rattle.mdcc_struct.specs.Maps.{txs_of}
use Rattle.mdcc_def_protocol.specs.Facts.{deltas_from}
use Rattle.mdcc_cells_delta_walk.specs.Entries.{left_in, opened_deltas}
use Rattle.mdcc_cells_delta_walk.specs.Steps.{noted}
use Rattle.mdcc_cells_delta_walk.proofs.FactsEntered.{deltas-are-read}
use Rattle.mdcc_cells_delta_walk.proofs.Noted.{txs-of-deltas}
use Rattle.mdcc_cells_delta_walk.proofs.steps.WithDeltasFactStep.take.Goals as goal

pub returns : goal.returns
returns c = λ fact fits is.
    let s = c.args.self.now in
    c.note_all.ensures
    ∙ ap (λ entries. fold noted s (txs_of (left_in entries))) (c.read_deltas-entries.ensures ∙ ap (opened_deltas s.key s.version) (c.start.ensures ∙ is))
    ∙ ap (λ entries. fold noted s (txs_of entries)) (deltas-are-read s.key s.version fact fits)
    ∙ ap (fold noted s) (txs-of-deltas (deltas_from s.key s.version fact))
