use Rattle.std.proofs.Common.{◌≡◌, ◌+◌, ◌++◌, ◌∷◌, [], true, refl, Some, None, Option, drop}
use Rattle.std.specs.Prelude.{filter_map}
use Rattle.mdcc_base.specs.declared.identifiers.TxId.{TxId}
use Rattle.mdcc_option.specs.declared.choices.Mark.{Mark}
use Rattle.mdcc_struct.specs.Maps.{are_ascending}
use Rattle.mdcc_struct.specs.Forced.{mark_with, marks_with}
use Rattle.mdcc_struct.proofs.Walks.{filter_map-keeps, filter_map-leaves, picked_entry, pushed_next, pushed_more, ascending-pushed, ascending-picked}
use Rattle.mdcc_struct.proofs.report.marks_with.Goals.{in-Some+in_ok-push_copy, in_default}
use Rattle.mdcc_struct.proofs.report.marks_with.Goals as goal

pub push_copy-requires : goal.push_copy-requires
push_copy-requires c =
    let all = c.in_ok-all.all in
    let whole = marks_with c.args.reports.now c.args.least in
    let f : TxId → Option Mark = mark_with c.args.reports.now c.args.least in
    let x : TxId × Mark = (c.at-tx.result.0, c.at-tx.result.1.now) in
    let y : TxId × Mark = (c.at-tx.result.0, c.in-Some.mark.now) in
    let picked : picked_entry f x ≡ Some y = rw (← c.in-Some.ensures) refl in
    let made : c.loop-i.enough ++ filter_map (picked_entry f) (drop c.loop-i.i all) ≡ whole = rw (← c.all.view_is) c.loop-i.invariant in
    let up : are_ascending whole ≡ true = rw (← c.in_ok-all.ensures) (ascending-picked f all c.len-i-end.ensures.ascending) in
    ascending-pushed c.loop-i.enough _ whole y up
    (pushed_next c.loop-i.enough _ _ whole y (filter_map-keeps (picked_entry f) all c.loop-i.i x y c.at-tx.ensures picked) made)

pub loop-i-preserved : goal.loop-i-preserved
loop-i-preserved c =
    let all = c.in_ok-all.all in
    let whole = marks_with c.args.reports.now c.args.least in
    let f : TxId → Option Mark = mark_with c.args.reports.now c.args.least in
    let x : TxId × Mark = (c.at-tx.result.0, c.at-tx.result.1.now) in
    let made : c.loop-i.enough ++ filter_map (picked_entry f) (drop c.loop-i.i all) ≡ whole = rw (← c.all.view_is) c.loop-i.invariant in
    elim c.match-mark_with.branch [
      | in-Some+in_ok-push_copy w ↦
          let y : TxId × Mark = (c.at-tx.result.0, w.in-Some.mark.now) in
          let picked : picked_entry f x ≡ Some y = rw (← w.in-Some.ensures) refl in
          let next : (c.loop-i.enough ++ y ∷ []) ++ filter_map (picked_entry f) (drop (c.loop-i.i + 1) all) ≡ whole =
          pushed_more c.loop-i.enough _ whole y
          (pushed_next c.loop-i.enough _ _ whole y (filter_map-keeps (picked_entry f) all c.loop-i.i x y c.at-tx.ensures picked) made) in
          rw (w.enough-is, w.in_ok-push_copy.ensures.ok, c.all.view_is) next
      | in_default w ↦
          let left : picked_entry f x ≡ None = rw (← w.in_default.ensures) refl in
          let next : c.loop-i.enough ++ filter_map (picked_entry f) (drop (c.loop-i.i + 1) all) ≡ whole =
          rw (filter_map-leaves (picked_entry f) all c.loop-i.i x c.at-tx.ensures left) at made in
          rw (w.enough-is, c.all.view_is) next
    ]
