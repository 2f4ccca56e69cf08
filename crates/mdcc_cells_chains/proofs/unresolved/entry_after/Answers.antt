use Rattle.std.proofs.Common.{sym, ◌∙◌}
use Rattle.mdcc_cells_chains.proofs.Ascending.{after-present, after-absent}
use Rattle.mdcc_cells_chains.proofs.unresolved.entry_after.Goals as goal

pub returns-then-has_at : goal.returns-then-has_at
returns-then-has_at c =
    c.entry_at.ensures
    ∙ after-present c.args.entries.now c.args.last.now c.place_of-place.result c.requires.ascending c.place_of-place.ensures.value (sym c.has_at.ensures ∙ c.if-has_at.true)

pub returns-else-has_at : goal.returns-else-has_at
returns-else-has_at c =
    c.entry_at-else-has_at.ensures
    ∙ after-absent c.args.entries.now c.args.last.now c.place_of-place.result c.requires.ascending c.place_of-place.ensures.value (sym c.has_at.ensures ∙ c.if-has_at.false)
