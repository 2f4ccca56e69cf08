use Rattle.std.proofs.Common.{◌∷◌, length, ap, ◌∙◌, arith}
use Rattle.std.specs.Prelude.{if◌then◌else◌}
use Rattle.mdcc_cells_chains.specs.Keys.{instance_eq}
use Rattle.mdcc_cells_chains.specs.Walks.{first_in, walk}
use Rattle.mdcc_cells_indices.specs.Tallies.{tally_in, tally_indexed}
use Rattle.mdcc_cells_indices.proofs.Tallying.{tally-push}
use Rattle.mdcc_cells_indices.proofs.tallies.Tallies.push.Goals as goal

pub push_reserved-requires : goal.push_reserved-requires
push_reserved-requires c =
    omega (
      arith,
      c.requires,
      ap (λ t. length t.instances.keys) c.self.view_is,
      ap (λ t. t.instances.room) c.self.view_is,
      c.self.invariant.alike,
      c.self.invariant.capacity_for,
      c.self.inside.tallies.ok.0,
    )

pub returns-clause-tallies : goal.returns-clause-tallies
returns-clause-tallies c other =
    ap (λ ks. tally_indexed c.push_reserved.new.self.items (first_in (walk (instance_eq other) ks))) c.push.ensures.keys
    ∙ ap (λ ts. tally_indexed ts (first_in (walk (instance_eq other) (c.args.instance ∷ c.self.inside.instances.keys)))) c.push_reserved.ensures.items
    ∙ tally-push c.args.instance other c.self.inside.instances.keys c.self.inside.tallies.items c.args.tally c.self.invariant.alike
    ∙ ap (λ t. if instance_eq other c.args.instance then c.args.tally else tally_in t other) c.self.view_is
