use Rattle.std.proofs.Common.{◌∙◌, ap}
use Rattle.mdcc_base.specs.declared.identifiers.TxId.{TxId}
use Rattle.mdcc_option.specs.declared.items.Update.{Update}
use Rattle.mdcc_def_protocol.specs.Fit.{decrease, increase}
use Rattle.mdcc_escrow.specs.Weights.{with_live}
use Rattle.mdcc_escrow.proofs.Bounded.{sums_with-bounded}
use Rattle.mdcc_escrow.proofs.Weighing.{load_more}
use Rattle.mdcc_escrow.proofs.load.with_live.Goals as goal

pub returns-clause-bounded : goal.returns-clause-bounded
returns-clause-bounded c h = record {
  down = rw c.with_decreases.ensures (sums_with-bounded decrease c.amounts_in-amounts.result.now c.args.load.now.down h.down);
  up = rw c.with_increases.ensures (sums_with-bounded increase c.amounts_in-amounts.result.now c.args.load.now.up h.up);
}

pub returns-clause-more : goal.returns-clause-more
returns-clause-more c live whole =
    let seen = c.args.seen.now in
    let e : TxId × Update = (c.args.tx, c.args.update.now) in
    rw (
      c.counted.ensures,
      c.counted-2.ensures,
      c.counted-3.ensures,
      c.with_decreases.ensures,
      c.with_increases.ensures,
      c.is_write.ensures,
      c.has_tx.ensures,
      c.is_write-2.ensures,
      c.amounts_in-amounts.ensures,
    ) (ap (λ load. with_live seen load e) whole ∙ load_more seen live e)
