use Rattle.std.proofs.Common.{refl}
use Rattle.mdcc_def_protocol.specs.declared.visible.Give.{Give}
use Rattle.mdcc_node.proofs.Ending.{adopted-adds, asked-adds}
use Rattle.mdcc_node.proofs.node.Node.take_sync.Goals as goal

pub returns-in_ok-adopt-in-SyncGive-clause-plan : goal.returns-in_ok-adopt-in-SyncGive-clause-plan
returns-in_ok-adopt-in-SyncGive-clause-plan g c =
    let m = c.in-SyncGive in
    let give : Give = record { key = m.key; version = m.version; item = m.item; adds = m.adds } in
    record {
      answer = λ cluster me facts volatile known. rw m.is (rw (c.in_ok-adopt-in-SyncGive.ensures.plan facts volatile known.store, c.in_ok-copy-in-SyncGive.ensures, c.copy.ensures) refl);
      left = λ cluster me facts volatile known. rw m.is (rw (adopted-adds facts volatile give).keeps known);
      store = refl;
    }

pub returns-in_ok-asked-in-Ask-clause-plan : goal.returns-in_ok-asked-in-Ask-clause-plan
returns-in_ok-asked-in-Ask-clause-plan g c =
    let m = c.in-Ask in
    record {
      answer = λ cluster me facts volatile known. rw m.is (rw (c.in_ok-asked-in-Ask.ensures.plan facts volatile known.store, known.at, c.number.ensures.value) refl);
      left = λ cluster me facts volatile known. rw m.is (rw (asked-adds me facts volatile c.args.from m.tx m.key m.version).keeps known);
      store = refl;
    }

pub returns-in_ok-asked-in-Ask-clause-fact : goal.returns-in_ok-asked-in-Ask-clause-fact
returns-in_ok-asked-in-Ask-clause-fact g c = λ facts store. rw c.in_ok-asked-in-Ask.ensures.fact tt

pub returns-in-Finished-clause-plan : goal.returns-in-Finished-clause-plan
returns-in-Finished-clause-plan g c =
    let m = c.in-Finished in
    record {
      answer = λ cluster me facts volatile known. rw m.is (rw c.requires.blank refl);
      left = λ cluster me facts volatile known. rw m.is (c.close.ensures.closed cluster me facts volatile known);
      store = c.close.ensures.store;
    }
