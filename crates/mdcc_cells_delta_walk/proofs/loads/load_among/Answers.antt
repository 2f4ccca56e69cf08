use Rattle.std.proofs.Common.{◌≡◌, ◌∷◌, ap, arith, cond, length, sym, ◌∙◌}
use Rattle.mdcc_cells_delta_walk.specs.Entries.{added_by}
use Rattle.mdcc_cells_delta_walk.specs.LiveWalks.{left_live, rest_live}
use Rattle.mdcc_cells_delta_walk.specs.Loads.{with_added}
use Rattle.mdcc_cells_delta_walk.proofs.Among.{among-go, txs-go}
use Rattle.mdcc_cells_delta_walk.proofs.LiveFound.{at-live}
use Rattle.mdcc_cells_delta_walk.proofs.loads.load_among.Goals as goal
use Rattle.mdcc_cells_delta_walk.proofs.loads.load_among.Goals.{then-counts_before, else-counts_before}

pub loop-tx-smaller : goal.loop-tx-smaller
loop-tx-smaller g c =
    let whole : left_live c.loop-tx.live ≡ (c.in-Some.tx, added_by c.find.new.self.entries) ∷ rest_live c.find.new.self =
    at-live (left_live c.loop-tx.live) c.in-Some.tx c.find.new.self c.in-Some.ensures in
    omega (arith, ap length whole, ap length c.pass.ensures)

pub loop-tx-preserved : goal.loop-tx-preserved
loop-tx-preserved g c =
    let at = c.find.new.self in
    let tx = c.in-Some.tx in
    let whole : left_live c.loop-tx.live ≡ (tx, added_by at.entries) ∷ rest_live at = at-live (left_live c.loop-tx.live) tx at c.in-Some.ensures in
    let next : c.if-counts_before.load ≡ cond c.counts_before.result (with_added c.args.seen.now c.loop-tx.load (tx, added_by at.entries)) c.loop-tx.load =
    elim c.if-counts_before.branch [
      | then-counts_before w ↦
          w.load-is ∙ w.with_added-load.ensures ∙ ap (λ a. with_added c.args.seen.now c.loop-tx.load (tx, a)) w.added.ensures
          ∙ sym (ap (λ b. cond b (with_added c.args.seen.now c.loop-tx.load (tx, added_by at.entries)) c.loop-tx.load) w.if-counts_before.true)
      | else-counts_before w ↦
          w.load-is ∙ sym (ap (λ b. cond b (with_added c.args.seen.now c.loop-tx.load (tx, added_by at.entries)) c.loop-tx.load) w.if-counts_before.false)
    ] in
    record {
      later = txs-go (left_live c.loop-tx.live) (left_live c.pass.new.self) (rest_live at) c.loop-tx.later.now c.after_first-later.result.now (tx, added_by at.entries)
          whole c.pass.ensures c.loop-tx.invariant.later c.after_first-later.ensures;
      sum = among-go c.args.seen.now (g.V.VoidTest.void c.args.void.now) c.loop-tx.load c.if-counts_before.load (left_live c.loop-tx.live) (left_live c.pass.new.self) (rest_live at)
          c.loop-tx.later.now c.after_first-later.result.now (tx, added_by at.entries) c.counts_before.result
          whole c.pass.ensures c.loop-tx.invariant.later c.after_first-later.ensures c.counts_before.ensures next
          ∙ c.loop-tx.invariant.sum;
    }
