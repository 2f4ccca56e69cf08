use Rattle.mdcc_node.proofs.Beginning.{refused_gives, refused_leaves, step_begun}
use Rattle.mdcc_node.proofs.Standing.{left_always, memory_always}
use Rattle.mdcc_node.specs.StepPlans.{unless_refused}
use Rattle.mdcc_def_protocol.specs.Facts.{epoch_of}
use Rattle.mdcc_node.proofs.node.Node.begin.Goals as goal

pub returns-in-Ok-clause-follows : goal.returns-in-Ok-clause-follows
returns-in-Ok-clause-follows g c = record {
  answer = λ cluster me facts volatile stands.
      let here = rw (stands.of, stands.at) at c.begun.ensures.answer in
      rw (step_begun cluster me facts volatile c.args.transaction.now c.in-Ok.tx (c.in-Ok.ensures.answer me (epoch_of facts) cluster.quorums facts volatile.manager stands.store stands.manager)) here;
  left = λ cluster me facts volatile stands.
      rw (step_begun cluster me facts volatile c.args.transaction.now c.in-Ok.tx (c.in-Ok.ensures.answer me (epoch_of facts) cluster.quorums facts volatile.manager stands.store stands.manager))
      (left_always (unless_refused c.begun.result c.begun.new.step) _ (record {
        of = stands.of;
        at = stands.at;
        among = stands.among;
        store = stands.store;
        manager = c.in-Ok.ensures.ok me (epoch_of facts) cluster.quorums volatile.manager stands.manager;
        leader = stands.leader;
        recovery = stands.recovery;
      }));
  memory = λ facts store. memory_always (unless_refused c.begun.result c.begun.new.step) _ store;
}

pub returns-in-Err-clause-follows : goal.returns-in-Err-clause-follows
returns-in-Err-clause-follows g c = record {
  answer = λ cluster me facts volatile stands.
      rw (c.refused.ensures.answer facts stands.store)
      (refused_gives cluster me facts volatile c.args.transaction.now c.in-Err.fault (c.in-Err.ensures.answer me (epoch_of facts) cluster.quorums facts volatile.manager stands.store stands.manager));
  left = λ cluster me facts volatile stands.
      rw (c.refused.ensures.answer facts stands.store)
      (refused_leaves cluster me facts volatile c.args.transaction.now g.S.FactStore.stands _ c.in-Err.fault (c.in-Err.ensures.answer me (epoch_of facts) cluster.quorums facts volatile.manager stands.store stands.manager) (record {
        of = stands.of;
        at = stands.at;
        among = stands.among;
        store = stands.store;
        manager = c.in-Err.ensures.err me (epoch_of facts) cluster.quorums volatile.manager stands.manager;
        leader = stands.leader;
        recovery = stands.recovery;
      }));
  memory = λ facts store. memory_always (unless_refused c.refused.result c.refused.new.step) _ store;
}
