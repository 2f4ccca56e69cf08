use Rattle.std.proofs.Common.{◌≡◌, drop}
use Rattle.std.specs.Option.{option_or}
use Rattle.mdcc_base.specs.declared.identifiers.TxId.{TxId}
use Rattle.mdcc_struct.specs.Maps.{value_of}
use Rattle.mdcc_cells_vote_walk.specs.Gathered.{picked}
use Rattle.mdcc_cells_vote_walk.proofs.gathered.GatheredMarks.put_all.Given as goal

abbrev pub invariant-loop-tx : goal.invariant-loop-tx
invariant-loop-tx l =
    (t : TxId) → option_or (value_of l.votes t) (picked l.self t (drop l.tx-index l.order)) ≡ option_or (value_of l.initial.votes t) (picked l.self t l.order)
