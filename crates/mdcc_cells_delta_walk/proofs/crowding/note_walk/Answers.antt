use Rattle.std.proofs.Common.{◌≡◌, ◌∷◌, ap, sym, ◌∙◌}
use Rattle.std.specs.List.{fold}
use Rattle.mdcc_struct.specs.Maps.{txs_of}
use Rattle.mdcc_cells_delta_walk.specs.Entries.{left_in}
use Rattle.mdcc_cells_delta_walk.specs.Steps.{noted, encoding_noted}
use Rattle.mdcc_cells_delta_walk.proofs.Crowded.{crowded-stays}
use Rattle.mdcc_cells_delta_walk.proofs.Summed.{read-first}
use Rattle.mdcc_cells_delta_walk.proofs.crowding.note_walk.Goals as goal

pub returns-then-deltas : goal.returns-then-deltas
returns-then-deltas c = sym (crowded-stays c.loop-cursor.deltas c.loop-cursor.walk c.if-deltas.true) ∙ c.loop-cursor.invariant

pub loop-cursor-preserved : goal.loop-cursor-preserved
loop-cursor-preserved c =
    let s = c.loop-cursor.deltas in
    let whole : c.loop-cursor.walk ≡ c.in-Some.cursor ∷ c.read.new.self =
    read-first c.loop-cursor.walk c.in-Some.cursor c.in-Some.ensures.first ∙ ap (λ ts. c.in-Some.cursor ∷ ts) (sym c.read.ensures.rest) in
    ap (λ t. fold encoding_noted t c.read.new.self) (c.note_all.ensures ∙ ap (λ e. fold noted s (txs_of (left_in e))) c.read_deltas-entries.ensures)
    ∙ sym (ap (fold encoding_noted s) whole)
    ∙ c.loop-cursor.invariant
