use Rattle.std.proofs.Common.{ap, sym, ◌∙◌}
use Rattle.std.specs.Prelude.{nat_lt}
use Rattle.mdcc_cells_floors.specs.Epochs.{floors_set}
use Rattle.mdcc_facts_kept.proofs.FloorsSet.{has-set}
use Rattle.mdcc_facts_kept.proofs.kept_facts.KeptFacts.has_floor.Goals as goal

pub returns : goal.returns
returns c facts kept =
    ap (nat_lt 0) (c.set.ensures ∙ ap (λ s. floors_set s.floors.entries) c.self.view_is ∙ kept.tops) ∙ sym (has-set facts kept.added.risen)
