use Rattle.std.proofs.Common.{◌∙◌, ap}
use Rattle.std.specs.Prelude.{slice_get}
use Rattle.mdcc_cells_chains.proofs.Ascending.{after-first}
use Rattle.mdcc_cells_chains.proofs.unresolved.Unresolved.after.Goals as goal

pub returns-in-None : goal.returns-in-None
returns-in-None c =
    c.entry_at.ensures ∙ ap (λ es. slice_get es 0) (c.deref-in-None.ensures.value ∙ ap (λ u. u.entries) c.self.view_is)
    ∙ after-first c.args.self.now.entries c.args.last c.in-None.is
