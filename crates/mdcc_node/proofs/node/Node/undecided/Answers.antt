use Rattle.std.proofs.Common.{◌≡◌, refl}
use Rattle.mdcc_def_protocol.specs.Facts.{epoch_of}
use Rattle.mdcc_def_protocol.specs.Manager.{on_voted}
use Rattle.mdcc_node.proofs.node.Node.undecided.Goals as goal

pub returns : goal.returns
returns g c = record {
  answer = λ cluster me facts volatile known.
      let act : c.answer_vote.new.act ≡ (on_voted cluster.quorums volatile.manager c.args.vote.now).0 =
      rw known.of at (c.in_ok-answer_vote.ensures.act me (epoch_of facts) volatile.manager (rw known.of known.manager)) in
      rw (c.requires cluster me facts volatile known) (rw (c.in_ok-send_act.ensures facts known.store, known.at, act) refl);
  left = λ cluster me facts volatile known. rw (c.requires cluster me facts volatile known) (record {
    of = known.of;
    at = known.at;
    among = known.among;
    store = known.store;
    manager = rw known.of at (c.in_ok-answer_vote.ensures.ok me (epoch_of facts) volatile.manager (rw known.of known.manager));
    leader = known.leader;
    recovery = known.recovery;
  });
  store = refl;
}
