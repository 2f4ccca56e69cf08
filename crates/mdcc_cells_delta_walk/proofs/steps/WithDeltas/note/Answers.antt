use Rattle.std.proofs.Common.{◌<◌, length, arith}
use Rattle.mdcc_base.specs.TxId.{tx_lt}
use Rattle.mdcc_facts_held.proofs.Sizes.{below_64}
use Rattle.mdcc_cells_delta_walk.proofs.Noted.{prefix-within}
use Rattle.mdcc_cells_delta_walk.proofs.steps.WithDeltas.note.Goals as goal

pub insert-requires : goal.insert-requires
insert-requires c =
    let room : length c.args.self.now.seen < 64 = below_64 _ _ c.if-is_full.false c.is_full.ensures.full.1 c.is_full.ensures.fits in
    (omega arith, (room, rw (c.place_of-place.ensures, c.as_slice-2.ensures.value) (prefix-within (λ other. tx_lt other c.args.tx) c.args.self.now.seen)))
