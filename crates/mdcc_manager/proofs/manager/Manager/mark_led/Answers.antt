use Rattle.std.proofs.Common.{sym, ◌∙◌}
use Rattle.mdcc_manager.proofs.Kept.{led_in-kept, txs-led}
use Rattle.mdcc_manager.proofs.manager.Manager.mark_led.Goals as goal

pub returns : goal.returns
returns c me epoch quorums managing stands =
    let tx = c.args.tx.now in
    let key = c.args.key.now in
    record {
      at = stands.at;
      since = stands.since;
      last = stands.last;
      numbered = rw (txs-led tx key managing.opened) stands.numbered;
      names = stands.names ∙ sym (txs-led tx key managing.opened);
      keeps = rw (c.mark_led.ensures, stands.keeps) (led_in-kept tx key managing.opened);
      counts = stands.counts;
    }
