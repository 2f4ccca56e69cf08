use Rattle.std.proofs.Common.{ap, ◌∙◌, arith}
use Rattle.mdcc_struct.specs.Maps.{value_of}
use Rattle.mdcc_cells_floors.specs.Epochs.{epoch_key}
use Rattle.mdcc_cells_floors.proofs.Counted.{none-entered, one-entered, set-few}
use Rattle.mdcc_cells_floors.proofs.floors.Floors.enter.Goals as goal

pub overflow_add-self : goal.overflow_add-self
overflow_add-self c =
    let none = ap (value_of c.self.inside.epochs.entries) c.epoch_key.ensures ∙ ap (λ u. value_of u.entries (epoch_key c.args.centre c.args.epoch)) c.self.view_is ∙ c.requires in
    let more = one-entered c.self.inside.epochs.entries c.insert.new.self.entries c.epoch_key.result c.args.seq c.self.inside.set c.self.invariant.0 none c.insert.ensures.entries c.if-seq-gt0.true in
    let few = set-few c.insert.new.self.entries in
    omega (arith, more, few, c.len-most.ensures.value, c.len-most.type_inv)

pub invariant_of-self : goal.invariant_of-self
invariant_of-self c =
    let none = ap (value_of c.self.inside.epochs.entries) c.epoch_key.ensures ∙ ap (λ u. value_of u.entries (epoch_key c.args.centre c.args.epoch)) c.self.view_is ∙ c.requires in
    (one-entered c.self.inside.epochs.entries c.insert.new.self.entries c.epoch_key.result c.args.seq c.self.inside.set c.self.invariant.0 none c.insert.ensures.entries c.if-seq-gt0.true, c.len-most.ensures.ascending)

pub invariant_of-self-else-seq-gt0 : goal.invariant_of-self-else-seq-gt0
invariant_of-self-else-seq-gt0 c =
    let none = ap (value_of c.self.inside.epochs.entries) c.epoch_key.ensures ∙ ap (λ u. value_of u.entries (epoch_key c.args.centre c.args.epoch)) c.self.view_is ∙ c.requires in
    (none-entered c.self.inside.epochs.entries c.insert.new.self.entries c.epoch_key.result c.args.seq c.self.inside.set c.self.invariant.0 none c.insert.ensures.entries c.if-seq-gt0.false, c.len-most.ensures.ascending)
