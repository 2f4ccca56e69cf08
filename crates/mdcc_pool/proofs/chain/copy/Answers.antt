use Rattle.std.proofs.Common.{◌≡◌, ℕ, ◌+◌, ◌-◌, ◌/◌, ◌%◌, ◌++◌, take, drop, sym, ap, ◌∙◌, arith, length-append, length-drop}
use Rattle.std.proofs.lemmas.List.{length-take}
use Rattle.mdcc_pool.specs.Chains.{cell_bytes, next_cell, step}
use Rattle.mdcc_pool.proofs.Copying.{copy-onward, copy-same, copy-step}
use Rattle.mdcc_pool.proofs.chain.copy.Goals as goal
use Rattle.mdcc_pool.proofs.chain.copy.Goals.{then-within-size-eq-WIDTH, else-within-size-eq-WIDTH}

pub loop-done-preserved : goal.loop-done-preserved
loop-done-preserved c =
    let place : ℕ = c.args.offset + c.loop-done.done in
    let size : ℕ = c.min-size.result in
    let few = c.min-size.ensures in
    let below = c.loop-done-test.true in
    let was = c.loop-done.invariant in
    let sum : c.args.offset + (c.loop-done.done + size) ≡ place + size = omega arith in
    let at : c.if-within-size-eq-WIDTH.at ≡ step c.args.cells.now ((c.args.offset + (c.loop-done.done + size)) / 60) c.args.first =
    elim c.if-within-size-eq-WIDTH.branch [
      | then-within-size-eq-WIDTH w ↦
          w.at-is ∙ ap (λ x. x.next) c.cell-cell.ensures ∙ ap (next_cell c.args.cells.now) was.1
          ∙ sym (copy-onward c.args.cells.now place size c.args.first w.if-within-size-eq-WIDTH.true)
          ∙ ap (λ k. step c.args.cells.now (k / 60) c.args.first) (sym sum)
      | else-within-size-eq-WIDTH w ↦
          w.at-is ∙ was.1
          ∙ sym (copy-same c.args.cells.now place size c.args.first (omega arith) w.if-within-size-eq-WIDTH.false)
          ∙ ap (λ k. step c.args.cells.now (k / 60) c.args.first) (sym sum)
    ] in
    let same : c.loop-done.done + size - c.loop-done.done ≡ size = omega arith in
    let piece : c.copy_from_slice.new.self ≡ take size (drop (place % 60) (cell_bytes c.args.cells.now c.loop-done.at)) =
    c.copy_from_slice.ensures.after ∙ ap (λ x. take (place % 60 + size - place % 60) (drop (place % 60) x.bytes)) c.cell-cell.ensures
    ∙ ap (λ k. take k (drop (place % 60) (cell_bytes c.args.cells.now c.loop-done.at))) (omega arith) in (
      omega arith,
      at,
      omega (
        arith,
        c.copy_from_slice.ensures.len,
        was.2,
        same,
        c.requires.fits,
        length-append (take c.loop-done.done c.loop-done.into) (c.copy_from_slice.new.self ++ drop (c.loop-done.done + size - c.loop-done.done) (drop c.loop-done.done c.loop-done.into)),
        length-append c.copy_from_slice.new.self (drop (c.loop-done.done + size - c.loop-done.done) (drop c.loop-done.done c.loop-done.into)),
        length-take c.loop-done.done c.loop-done.into,
        length-take (c.loop-done.done + size - c.loop-done.done) (drop c.loop-done.done c.loop-done.into),
        length-drop c.loop-done.done c.loop-done.into,
        length-drop (c.loop-done.done + size - c.loop-done.done) (drop c.loop-done.done c.loop-done.into),
      ),
      λ n enough.
          ap (λ k. take c.loop-done.done c.loop-done.into ++ (c.copy_from_slice.new.self ++ drop k (drop c.loop-done.done c.loop-done.into))) same
          ∙ copy-step c.args.cells.now c.args.first c.args.offset c.args.count c.loop-done.done size c.loop-done.at c.loop-done.into c.copy_from_slice.new.self c.args.into.now
          c.requires.whole c.requires.within below few was.1 piece n enough (was.3 n enough),
    )
