use Rattle.std.proofs.Common.{rules, ◌≡◌, ℕ, List, ◌+◌, ◌++◌, take, option_to_list, ◌∙◌}
use Rattle.mdcc_option.specs.declared.items.Delta.{Delta}
use Rattle.mdcc_def_messages.specs.declared.facts.Fact.{Fact as AFact}
use Rattle.mdcc_def_protocol.specs.Facts.{executed_of}
use Rattle.mdcc_struct.specs.Maps.{txs_of}
use Rattle.mdcc_visible.specs.Deltas.{deltas_of_map}
use Rattle.mdcc_visible.proofs.Executed.{next_executed, step_kept, step_pushed}
use Rattle.mdcc_visible.proofs.deltas.copied_deltas.Goals as goal
use Rattle.mdcc_visible.proofs.deltas.copied_deltas.Goals.{in-Some+in_ok-push, in_default}

pub loop-tx-preserved : goal.loop-tx-preserved
loop-tx-preserved g c facts h = elim c.match-delta.branch [
  | in-Some+in_ok-push w ↦
      step_pushed c.match-delta.deltas c.loop-tx.deltas w.in-Some.delta c.delta.result (made facts c.loop-tx.tx-index) (made facts (c.loop-tx.tx-index + 1))
      (w.deltas-is ∙ w.in_ok-push.ensures.ok) (c.loop-tx.invariant facts h) (next facts h) w.in-Some.is
  | in_default w ↦
      step_kept c.match-delta.deltas c.loop-tx.deltas c.delta.result (made facts c.loop-tx.tx-index) (made facts (c.loop-tx.tx-index + 1))
      w.deltas-is (c.loop-tx.invariant facts h) (next facts h) w.in_default.is
]
  where
    made : List AFact → ℕ → List Delta
    made facts i = take i (deltas_of_map (executed_of facts c.args.key.now))

    next : (facts : List AFact) → g.S.FactStore.stands c.args.store.now facts → made facts (c.loop-tx.tx-index + 1) ≡ made facts c.loop-tx.tx-index ++ option_to_list c.delta.result
    next facts h =
        let seen : c.as_slice-tx-items.result.now ≡ txs_of (executed_of facts c.args.key.now) = c.as_slice-tx-items.ensures.value ∙ c.executed-seen.ensures facts h in
        rw (c.delta.ensures facts h)
        (next_executed facts c.args.key.now c.as_slice-tx-items.result.now c.loop-tx.tx-index c.tx-item.result c.tx-item.result seen (search rules) c.tx-item.is)
