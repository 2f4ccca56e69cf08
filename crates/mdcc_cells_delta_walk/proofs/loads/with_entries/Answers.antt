use Rattle.std.proofs.Common.{◌≡◌, ap, cond, sym, ◌∙◌}
use Rattle.mdcc_cells_delta_walk.specs.Entries.{added_by, left_in, rest_in}
use Rattle.mdcc_cells_delta_walk.specs.Loads.{with_added}
use Rattle.mdcc_cells_delta_walk.proofs.Summed.{at-first, entries-go}
use Rattle.mdcc_cells_delta_walk.proofs.loads.with_entries.Goals as goal
use Rattle.mdcc_cells_delta_walk.proofs.loads.with_entries.Goals.{then-counts, else-counts}

pub loop-tx-preserved : goal.loop-tx-preserved
loop-tx-preserved g c =
    let at = c.find.new.self in
    let tx = c.in-Some.tx in
    let next : c.if-counts.load ≡ cond c.counts.result (with_added c.args.seen.now c.loop-tx.load (tx, added_by at)) c.loop-tx.load =
    elim c.if-counts.branch [
      | then-counts w ↦
          w.load-is ∙ w.with_added-load.ensures ∙ ap (λ a. with_added c.args.seen.now c.loop-tx.load (tx, a)) w.added.ensures
          ∙ sym (ap (λ b. cond b (with_added c.args.seen.now c.loop-tx.load (tx, added_by at)) c.loop-tx.load) w.if-counts.true)
      | else-counts w ↦ w.load-is ∙ sym (ap (λ b. cond b (with_added c.args.seen.now c.loop-tx.load (tx, added_by at)) c.loop-tx.load) w.if-counts.false)
    ] in
    entries-go c.args.seen.now (g.V.VoidTest.void c.args.void.now) c.args.instance.now.0 c.args.instance.now.1 c.args.older.now c.loop-tx.load c.if-counts.load
    (left_in c.loop-tx.entries) (left_in c.pass.new.self) (rest_in at) (tx, added_by at) c.counts.result
    (at-first (left_in c.loop-tx.entries) tx at c.in-Some.ensures) c.pass.ensures c.counts.ensures next
    ∙ c.loop-tx.invariant
