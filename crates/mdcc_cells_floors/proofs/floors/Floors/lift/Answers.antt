use Rattle.std.proofs.Common.{◌<◌, length, ap, ◌∙◌, arith}
use Rattle.mdcc_struct.specs.Maps.{value_of, with_entry}
use Rattle.mdcc_cells_floors.specs.Epochs.{epoch_key}
use Rattle.mdcc_cells_floors.proofs.Counted.{one-more, set-first, shorter, with-lifted}
use Rattle.mdcc_cells_floors.proofs.floors.Floors.lift.Goals as goal

pub insert-requires : goal.insert-requires
insert-requires c none =
    let some = ap (value_of c.self.inside.epochs.entries) c.epoch_key-key.ensures ∙ ap (λ u. value_of u.entries (epoch_key c.args.centre c.args.epoch)) c.self.view_is ∙ c.requires in
    let less = shorter c.self.inside.epochs.entries c.epoch_key-key.result c.args.floor c.self.invariant.1 some in
    omega (arith, less, ap length c.remove.ensures.entries, c.remove.ensures.room, c.len-most.ensures.value, c.len-most.ensures.fits)

pub overflow_add-self : goal.overflow_add-self
overflow_add-self c =
    let some = ap (value_of c.self.inside.epochs.entries) c.epoch_key-key.ensures ∙ ap (λ u. value_of u.entries (epoch_key c.args.centre c.args.epoch)) c.self.view_is ∙ c.requires in
    let few = one-more c.self.inside.epochs.entries c.epoch_key-key.result c.self.inside.set c.args.floor c.self.invariant.0 c.self.invariant.1 some c.if-floor-eq0.true in
    omega (arith, few, c.len-most.ensures.value, c.len-most.type_inv)

pub invariant_of-self : goal.invariant_of-self
invariant_of-self c =
    let some = ap (value_of c.self.inside.epochs.entries) c.epoch_key-key.ensures ∙ ap (λ u. value_of u.entries (epoch_key c.args.centre c.args.epoch)) c.self.view_is ∙ c.requires in
    let new = c.insert.ensures.entries ∙ ap (λ es. with_entry es (c.epoch_key-key.result, c.args.seq)) c.remove.ensures.entries in
    set-first c.self.inside.epochs.entries c.insert.new.self.entries c.epoch_key-key.result c.args.seq c.self.inside.set c.args.floor c.self.invariant c.if-floor-seq.true some new c.if-floor-eq0.true

pub invariant_of-self-else-floor-eq0 : goal.invariant_of-self-else-floor-eq0
invariant_of-self-else-floor-eq0 c =
    let some = ap (value_of c.self.inside.epochs.entries) c.epoch_key-key.ensures ∙ ap (λ u. value_of u.entries (epoch_key c.args.centre c.args.epoch)) c.self.view_is ∙ c.requires in
    let new = c.insert.ensures.entries ∙ ap (λ es. with_entry es (c.epoch_key-key.result, c.args.seq)) c.remove.ensures.entries in
    let above : 0 < c.args.floor = omega (arith, c.if-floor-eq0.false) in
    with-lifted c.self.inside.epochs.entries c.insert.new.self.entries c.epoch_key-key.result c.args.seq c.self.inside.set c.args.floor c.self.invariant c.if-floor-seq.true some new above
