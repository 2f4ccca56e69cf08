use Rattle.std.proofs.Common.{◌∙◌, subst, sym}
use Rattle.mdcc_cells_indices.specs.Promises.{ArePromised, promises_of}
use Rattle.mdcc_cells_indices.proofs.Promised.{end-found}
use Rattle.mdcc_cells_indices.proofs.promises.Promises.promised.Goals as goal

pub returns : goal.returns
returns c facts promised =
    let inside : ArePromised (record { keys = c.self.inside.keys; ranges = c.self.inside.ranges.items }) facts = subst (λ p. ArePromised p facts) (sym c.self.view_is) promised in
    c.oldest_end.ensures (promises_of facts) (record { keys_of = inside.keys_of; ranges_of = c.deref.ensures.value ∙ inside.ranges_of })
    ∙ end-found c.args.key.now c.args.version c.args.ballot facts
