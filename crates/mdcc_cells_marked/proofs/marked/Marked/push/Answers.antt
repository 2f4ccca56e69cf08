use Rattle.std.proofs.Common.{◌∷◌, length, ap, ◌∙◌, arith}
use Rattle.mdcc_cells_marked.specs.Marks.{with_instances}
use Rattle.mdcc_cells_marked.proofs.Beside.{length-with_instances, with_instances-push}
use Rattle.mdcc_cells_marked.proofs.marked.Marked.push.Goals as goal

pub push-requires : goal.push-requires
push-requires c =
    omega (arith, c.requires, ap (λ s. length s.entries) c.self.view_is, ap (λ s. s.room) c.self.view_is, length-with_instances c.self.inside.txs.keys c.self.inside.instances.items)

pub push_reserved-requires : goal.push_reserved-requires
push_reserved-requires c =
    omega (
      arith,
      c.requires,
      ap (λ s. length s.entries) c.self.view_is,
      ap (λ s. s.room) c.self.view_is,
      length-with_instances c.self.inside.txs.keys c.self.inside.instances.items,
      c.self.invariant.alike,
      c.self.invariant.capacity_for,
      c.self.inside.instances.ok.0,
    )

pub returns-clause-entries : goal.returns-clause-entries
returns-clause-entries c =
    ap (λ ks. with_instances ks c.push_reserved.new.self.items) c.push.ensures.keys
    ∙ ap (with_instances (c.args.tx ∷ c.self.inside.txs.keys)) c.push_reserved.ensures.items
    ∙ with_instances-push c.args.tx c.self.inside.txs.keys c.self.inside.instances.items (c.args.key.now, c.args.version) c.self.invariant.alike
    ∙ ap (λ s. (c.args.tx, (c.args.key.now, c.args.version)) ∷ s.entries) c.self.view_is
