use Rattle.std.proofs.Common.{◌≡◌, ℕ, length, take, drop, set, sym, ap, ◌∙◌, arith}
use Rattle.std.proofs.lemmas.List.{length-set}
use Rattle.mdcc_pool.specs.Chains.{cell_filled, next_cell, padded}
use Rattle.mdcc_pool.specs.Sizes.{cells_for}
use Rattle.mdcc_pool.proofs.Chains.{filled-next, step_next}
use Rattle.mdcc_pool.proofs.Copying.{drop-min, take-min, write-next}
use Rattle.mdcc_pool.proofs.chain.write.Goals as goal

pub loop-i-preserved : goal.loop-i-preserved
loop-i-preserved c =
    let same : (k : ℕ) → next_cell c.loop-i.cells k ≡ next_cell c.args.cells.now k = c.loop-i.invariant.2 in
    let bytes-are : padded c.split_at.result.0.now ≡ padded (take 60 c.loop-i.rest.now) =
    ap padded (c.split_at.ensures.front ∙ ap (λ k. take k c.loop-i.rest.now) c.min.ensures ∙ take-min c.loop-i.rest.now) in
    let rest-is : c.split_at.result.1.now ≡ drop 60 c.loop-i.rest.now =
    c.split_at.ensures.back ∙ ap (λ k. drop k c.loop-i.rest.now) c.min.ensures ∙ drop-min c.loop-i.rest.now in
    let cells-are : c.fill-at.new.self ≡ cell_filled c.loop-i.cells c.loop-i.at c.loop-i.rest.now =
    c.fill-at.ensures.cells ∙ ap (λ bytes. set c.loop-i.cells c.loop-i.at (record { next = next_cell c.loop-i.cells c.loop-i.at; bytes = bytes })) bytes-are in (
      c.fill-at.ensures.after ∙ ap (next_cell c.loop-i.cells) c.loop-i.invariant.0 ∙ same _ ∙ sym (step_next c.args.cells.now c.loop-i._i c.args.first),
      ap length cells-are ∙ length-set c.loop-i.cells c.loop-i.at _ ∙ c.loop-i.invariant.1,
      λ k. ap (λ cells. next_cell cells k) cells-are ∙ filled-next c.loop-i.cells c.loop-i.at c.loop-i.rest.now k ∙ same k,
      rw (cells-are, rest-is, c.fill-at.ensures.after) (write-next c.loop-i.cells _ c.loop-i.rest.now (cells_for (length c.args.bytes.now)) c.loop-i._i c.loop-i.at (omega (arith, c.loop-i-test.true, c.cells_for-i-end.ensures)) c.loop-i.invariant.3),
    )
