use Rattle.std.proofs.Common.{◌∷◌, length, ap, ◌∙◌, arith}
use Rattle.mdcc_cells_indices.specs.Entries.{beside}
use Rattle.mdcc_cells_indices.proofs.Beside.{beside-push, length-beside}
use Rattle.mdcc_cells_indices.proofs.instance_chains.InstanceChains.push.Goals as goal

pub push-requires : goal.push-requires
push-requires c =
    omega (arith, c.requires, ap (λ s. length s.entries) c.self.view_is, ap (λ s. s.room) c.self.view_is, length-beside c.self.inside.index.keys c.self.inside.numbers.items)

pub push_reserved-requires : goal.push_reserved-requires
push_reserved-requires c =
    omega (
      arith,
      c.requires,
      ap (λ s. length s.entries) c.self.view_is,
      ap (λ s. s.room) c.self.view_is,
      length-beside c.self.inside.index.keys c.self.inside.numbers.items,
      c.self.invariant.alike,
      c.self.invariant.capacity_for,
      c.self.inside.numbers.ok.0,
    )

pub returns-clause-entries : goal.returns-clause-entries
returns-clause-entries c =
    ap (λ ks. beside ks c.push_reserved.new.self.items) c.push.ensures.keys
    ∙ ap (beside ((c.args.key, c.args.version) ∷ c.self.inside.index.keys)) c.push_reserved.ensures.items
    ∙ beside-push (c.args.key, c.args.version) c.self.inside.index.keys c.self.inside.numbers.items c.args.number c.self.invariant.alike
    ∙ ap (λ s. ((c.args.key, c.args.version), c.args.number) ∷ s.entries) c.self.view_is
