use Rattle.std.proofs.Common.{◌≡◌, None, Some, if◌then◌else◌, refl}
use Rattle.mdcc_node.proofs.Standing.{foreign_step, own_step}
use Rattle.mdcc_def_rules.specs.Node.{is_own_message}
use Rattle.mdcc_node.proofs.node.Node.deliver.Goals as goal

pub returns-in-Some-clause-follows : goal.returns-in-Some-clause-follows
returns-in-Some-clause-follows g c =
    let envelope = c.args.envelope.now in
    let cells = g.S.FactStore.cells c.args.self.now.store in
    let found : Some c.in-Some.from ≡ (if is_own_message c.args.self.now.cluster c.number.result envelope then Some envelope.from else None) = c.in-Some.ensures.value in
    record {
      answer = λ cluster me facts volatile stands.
          let here = rw (c.number.ensures.value, stands.of, stands.at) at found in
          rw (own_step cells cluster me facts volatile envelope c.in-Some.from here) (c.receive.ensures.does.answer cluster me facts volatile stands);
      left = λ cluster me facts volatile stands.
          let here = rw (c.number.ensures.value, stands.of, stands.at) at found in
          rw (own_step cells cluster me facts volatile envelope c.in-Some.from here) (c.receive.ensures.does.left cluster me facts volatile stands);
      memory = c.receive.ensures.does.memory;
    }

pub returns-in-None-clause-follows : goal.returns-in-None-clause-follows
returns-in-None-clause-follows g c =
    let envelope = c.args.envelope.now in
    let cells = g.S.FactStore.cells c.args.self.now.store in
    let none : None ≡ (if is_own_message c.args.self.now.cluster c.number.result envelope then Some envelope.from else None) = c.in-None.ensures.value in
    record {
      answer = λ cluster me facts volatile stands.
          let here = rw (c.number.ensures.value, stands.of, stands.at) at none in
          rw (foreign_step cells cluster me facts volatile envelope here) refl;
      left = λ cluster me facts volatile stands.
          let here = rw (c.number.ensures.value, stands.of, stands.at) at none in
          rw (foreign_step cells cluster me facts volatile envelope here) stands;
      memory = λ facts store. tt;
    }
