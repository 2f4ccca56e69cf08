use Rattle.std.proofs.Common.{rules, of_calls}
use Rattle.std.proofs.lemmas.Fn.{always_returns_same}
use Rattle.mdcc_base.specs.TxId.{tx_lt}
use Rattle.mdcc_cells_chains.proofs.Ascending.{no_entry, partitioned, place_of-point}
use Rattle.mdcc_cells_chains.proofs.unresolved.place_of.Goals as goal

pub returns-clause-value : goal.returns-clause-value
returns-clause-value c =
    let point = c.partition_point.ensures.partitioned (λ e. tx_lt e.0 c.args.tx.now) (always_returns_same _ _ _ (λ a r f k. search (rules, of_calls)))
    (partitioned c.args.entries.now c.args.tx.now c.requires) in
    place_of-point c.args.entries.now c.args.tx.now c.partition_point.result no_entry c.partition_point.ensures.bound point
