use Rattle.std.proofs.Common.{◌≡◌, ◌+◌, Bool, true, false, drop, filter, refl}
use Rattle.mdcc_base.specs.declared.identifiers.TxId.{TxId}
use Rattle.mdcc_option.specs.declared.choices.Mark.{Mark}
use Rattle.mdcc_struct.proofs.Walks.{ascending-filter, ascending-pushed, filter-keeps, filter-leaves, pushed_more, pushed_next}
use Rattle.mdcc_node.specs.StepParts.{is_new}
use Rattle.mdcc_node.proofs.Marks.{inserted-last, value-last}
use Rattle.mdcc_node.proofs.votes.new_marks.Goals.{then-is_new+in_ok-add_mark, else-is_new}
use Rattle.mdcc_node.proofs.votes.new_marks.Goals as goal

pub loop-place-preserved : goal.loop-place-preserved
loop-place-preserved g c = λ facts store.
    let options = c.args.options.now in
    let p : TxId × Mark → Bool = λ e. is_new facts c.args.votes.now e.0 in
    let x : TxId × Mark = (c.at-tx.result.0, c.at-tx.result.1.now) in
    let known : c.is_new.result ≡ p x = c.is_new.ensures facts store in
    elim c.if-is_new.branch [
      | then-is_new+in_ok-add_mark w ↦
          let passes : p x ≡ true = rw (← known, w.if-is_new.true) refl in
          let next = pushed_next c.loop-place.marks (filter p (drop c.loop-place.place options)) (filter p (drop (c.loop-place.place + 1) options)) (filter p options) x
          (filter-keeps p options c.loop-place.place x c.at-tx.ensures passes) (c.loop-place.invariant facts store) in
          let up = ascending-pushed c.loop-place.marks (filter p (drop (c.loop-place.place + 1) options)) (filter p options) x (ascending-filter p options c.len-place-end.ensures.ascending) next in
          rw (w.marks-is, w.in_ok-add_mark.ensures (value-last c.loop-place.marks x up), inserted-last c.loop-place.marks x up)
          (pushed_more c.loop-place.marks (filter p (drop (c.loop-place.place + 1) options)) (filter p options) x next)
      | else-is_new w ↦
          let fails : p x ≡ false = rw (← known, w.if-is_new.false) refl in
          let before = c.loop-place.invariant facts store in
          rw w.marks-is (rw (filter-leaves p options c.loop-place.place x c.at-tx.ensures fails) at before)
    ]
