use Rattle.std.proofs.Common.{rules, of_calls}
use Rattle.std.proofs.lemmas.Fn.{always_returns_same}
use Rattle.mdcc_base.specs.TxId.{tx_lt}
use Rattle.mdcc_leader_structures.proofs.Filled.{partitioned-entries, place_of-point}
use Rattle.mdcc_leader_structures.proofs.claims.Claims.place_of.Goals as goal

pub returns : goal.returns
returns c =
    let choices = c.self.inside.choices.items in
    let entries = c.self.inside.entries.items in
    let up = partitioned-entries choices entries c.args.tx.now c.self.invariant.ascending in
    let point = c.partition_point.ensures.partitioned (λ e. tx_lt e.tx c.args.tx.now) (always_returns_same _ _ _ (λ a r f k. search (rules, of_calls)))
    (rw c.as_slice.ensures.value up) in
    rw (← c.self.view_is) (place_of-point choices entries c.args.tx.now _ (rw (← c.as_slice.ensures.value) c.partition_point.ensures.bound) (rw (← c.as_slice.ensures.value) point))
