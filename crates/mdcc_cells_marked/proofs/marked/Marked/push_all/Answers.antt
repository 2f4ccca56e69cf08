use Rattle.std.proofs.Common.{◌++◌, ◌∷◌, length, sym, ap, ◌∙◌, arith}
use Rattle.mdcc_cells_marked.proofs.Beside.{marks-next}
use Rattle.mdcc_cells_marked.proofs.marked.Marked.push_all.Goals as goal

pub loop-left-preserved : goal.loop-left-preserved
loop-left-preserved c = record {
  within = omega arith;
  fits = omega (arith, ap length c.push.ensures.entries, c.push.ensures.room, c.loop-left.invariant.fits);
  room = c.push.ensures.room ∙ c.loop-left.invariant.room;
  entries =
      c.push.ensures.entries
      ∙ ap (λ es. (c.at-tx.result.0, (c.args.key.now, c.args.version)) ∷ es) c.loop-left.invariant.entries
      ∙ ap (λ ms. ms ++ c.args.self.now.entries) (sym (marks-next c.args.options.now c.loop-left.left (c.at-tx.result.0, c.at-tx.result.1.now) (c.args.key.now, c.args.version) (omega arith) c.at-tx.ensures));
}
