use Rattle.std.proofs.Common.{◌≡◌, refl}
use Rattle.mdcc_def_protocol.specs.Facts.{epoch_of}
use Rattle.mdcc_def_protocol.specs.Manager.{on_escalate}
use Rattle.mdcc_node.proofs.node.Node.escalate.Goals as goal

pub returns : goal.returns
returns g c = record {
  answer = λ cluster me facts volatile known.
      let act : c.on_escalate-act.result ≡ (on_escalate cluster.quorums volatile.manager c.args.from c.args.tx c.args.key.now c.args.cause).0 =
      rw known.of at (c.on_escalate-act.ensures.act me (epoch_of facts) volatile.manager (rw known.of known.manager)) in
      rw (c.in_ok-send_act.ensures facts known.store, known.at, act) refl;
  left = λ cluster me facts volatile known. record {
    of = known.of;
    at = known.at;
    among = known.among;
    store = known.store;
    manager = rw known.of at (c.on_escalate-act.ensures.left me (epoch_of facts) volatile.manager (rw known.of known.manager));
    leader = known.leader;
    recovery = known.recovery;
  };
  store = refl;
}
