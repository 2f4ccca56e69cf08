use Rattle.std.proofs.Common.{◌≡◌, length, sym, subst, ap, ◌∙◌, arith}
use Rattle.std.specs.List.{filter}
use Rattle.mdcc_cells_delta_walk.specs.Chains.{AreFactNumbers, AreOf}
use Rattle.mdcc_theorem_fact_folds.specs.Chains.{is_of_instance}
use Rattle.mdcc_cells_indices.specs.Entries.{AreBelow, beside}
use Rattle.mdcc_cells_indices.proofs.Beside.{number-below}
use Rattle.mdcc_cells_indices.proofs.Walking.{texts-are}
use Rattle.mdcc_cells_indices.proofs.instance_chains.InstanceChains.facts_of.Goals as goal

pub new-requires : goal.new-requires
new-requires c =
    let bound = length c.args.cells.now.encodings in
    let keys = c.self.inside.index.keys in
    let numbers = c.self.inside.numbers.items in
    let below : AreBelow bound (beside keys numbers) = subst (AreBelow bound) (sym (ap (λ s. s.entries) c.self.view_is)) c.requires in
    let numbered : AreFactNumbers c.args.cells.now.encodings keys numbers = record {
      alike = c.self.invariant.alike;
      below = λ index within. number-below bound keys numbers index below (omega (arith, within, c.self.invariant.alike));
    } in
    subst (AreFactNumbers c.args.cells.now.encodings keys) (sym c.deref.ensures.value) numbered

pub returns : goal.returns
returns c keep facts holds entries =
    let keys = c.self.inside.index.keys in
    let are : beside keys c.deref.result.now ≡ beside keys c.self.inside.numbers.items = ap (beside keys) c.deref.ensures.value in
    subst (λ texts. AreOf texts (filter (is_of_instance c.args.instance.now.0 c.args.instance.now.1) (filter keep facts))) (sym c.new.ensures)
    (texts-are c.args.cells.now.encodings keep facts keys c.deref.result.now c.args.instance.now holds (are ∙ ap (λ s. s.entries) c.self.view_is ∙ entries))
