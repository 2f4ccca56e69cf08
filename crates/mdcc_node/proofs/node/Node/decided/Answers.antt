use Rattle.std.proofs.Common.{◌≡◌, None, Some, refl}
use Rattle.mdcc_def_protocol.specs.Facts.{epoch_of}
use Rattle.mdcc_def_protocol.specs.Manager.{would_decide}
use Rattle.mdcc_def_protocol.specs.Volatile.{initial_volatile}
use Rattle.mdcc_node.proofs.Ending.{heard-follows}
use Rattle.mdcc_node.proofs.Ends.{none-is-no-end}
use Rattle.mdcc_node.proofs.node.Node.decided.Goals as goal

pub returns-in_ok-decide-in-Some-clause-plan : goal.returns-in_ok-decide-in-Some-clause-plan
returns-in_ok-decide-in-Some-clause-plan g c = record {
  answer = λ cluster me facts volatile known.
      let decided : Some c.in-Some.outcome ≡ would_decide cluster.quorums volatile.manager c.args.vote.now =
      rw known.of at (c.in-Some.ensures me (epoch_of facts) volatile.manager (rw known.of known.manager)) in
      rw (← decided) (rw (c.in_ok-decide-in-Some.ensures volatile, known.of, known.at) refl);
  left = λ cluster me facts volatile known.
      let decided : Some c.in-Some.outcome ≡ would_decide cluster.quorums volatile.manager c.args.vote.now =
      rw known.of at (c.in-Some.ensures me (epoch_of facts) volatile.manager (rw known.of known.manager)) in
      rw (← decided) known;
  store = refl;
}

pub returns-in_ok-decide-in-Some-clause-fact : goal.returns-in_ok-decide-in-Some-clause-fact
returns-in_ok-decide-in-Some-clause-fact g c = λ facts store.
    rw (c.in_ok-decide-in-Some.ensures initial_volatile) (heard-follows facts initial_volatile c.args.vote.now.tx c.in-Some.outcome (c.requires.unsettled facts store))

pub returns-in-None-clause-plan : goal.returns-in-None-clause-plan
returns-in-None-clause-plan g c = record {
  answer = λ cluster me facts volatile known.
      let none : None ≡ would_decide cluster.quorums volatile.manager c.args.vote.now =
      rw known.of at (c.in-None.ensures me (epoch_of facts) volatile.manager (rw known.of known.manager)) in
      absurd (none-is-no-end _ none (c.requires.ends cluster me facts volatile known));
  left = λ cluster me facts volatile known.
      let none : None ≡ would_decide cluster.quorums volatile.manager c.args.vote.now =
      rw known.of at (c.in-None.ensures me (epoch_of facts) volatile.manager (rw known.of known.manager)) in
      absurd (none-is-no-end _ none (c.requires.ends cluster me facts volatile known));
  store = refl;
}
