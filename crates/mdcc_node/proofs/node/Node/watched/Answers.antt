use Rattle.std.proofs.Common.{◌≡◌, Some, refl}
use Rattle.mdcc_def_protocol.specs.Recover.{would_decide}
use Rattle.mdcc_def_protocol.specs.Volatile.{initial_volatile}
use Rattle.mdcc_node.proofs.Ending.{decided-tx, heard-follows}
use Rattle.mdcc_node.proofs.node.Node.watched.Goals as goal

pub returns-in_ok-decide-in-Some-clause-plan : goal.returns-in_ok-decide-in-Some-clause-plan
returns-in_ok-decide-in-Some-clause-plan g c = record {
  answer = λ cluster me facts volatile known.
      let decided : Some c.in-Some.decided ≡ would_decide cluster.quorums facts volatile.recovery c.args.vote.now =
      rw known.of at (c.in-Some.ensures facts volatile.recovery known.store (rw known.of known.recovery)) in
      let same = decided-tx cluster.quorums facts volatile.recovery c.args.vote.now c.in-Some.decided decided in
      rw (← decided) (rw (c.in_ok-decide-in-Some.ensures volatile, known.of, known.at, same) refl);
  left = λ cluster me facts volatile known.
      let decided : Some c.in-Some.decided ≡ would_decide cluster.quorums facts volatile.recovery c.args.vote.now =
      rw known.of at (c.in-Some.ensures facts volatile.recovery known.store (rw known.of known.recovery)) in
      rw (← decided) known;
  store = refl;
}

pub returns-in_ok-decide-in-Some-clause-fact : goal.returns-in_ok-decide-in-Some-clause-fact
returns-in_ok-decide-in-Some-clause-fact g c = λ facts store.
    rw (c.in_ok-decide-in-Some.ensures initial_volatile) (heard-follows facts initial_volatile c.args.vote.now.tx c.in-Some.decided.1 (c.requires.unsettled facts store))
