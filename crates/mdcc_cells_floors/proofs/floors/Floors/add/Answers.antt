use Rattle.std.proofs.Common.{◌∷◌, sym, subst}
use Rattle.mdcc_cells_floors.specs.Epochs.{HoldsEpochs}
use Rattle.mdcc_cells_floors.proofs.Held.{holds_more, on-ok}
use Rattle.mdcc_cells_floors.proofs.floors.Floors.add.Goals as goal

pub returns-clause-holds : goal.returns-clause-holds
returns-clause-holds c facts kept =
    on-ok c.note.result (λ is. subst (λ epochs. HoldsEpochs epochs (c.args.fact.now ∷ facts)) (sym is) (holds_more c.args.self.now.entries facts c.args.fact.now kept)) c.note.ensures.ok
