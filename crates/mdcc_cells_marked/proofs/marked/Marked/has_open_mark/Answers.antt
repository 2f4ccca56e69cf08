use Rattle.std.proofs.Common.{ap, ◌∙◌}
use Rattle.std.specs.List.{list_any}
use Rattle.mdcc_cells_marked.specs.Marks.{is_open_entry, with_instances}
use Rattle.mdcc_cells_marked.proofs.Found.{marked-known}
use Rattle.mdcc_cells_marked.proofs.marked.Marked.has_open_mark.Goals as goal

pub returns : goal.returns
returns c facts kept entries =
    c.has_open.ensures facts kept
    ∙ ap (λ instances. list_any (is_open_entry facts c.args.tx) (with_instances c.self.inside.txs.keys instances)) c.deref.ensures.value
    ∙ marked-known facts c.args.tx _ (ap (λ s. s.entries) c.self.view_is ∙ entries)
