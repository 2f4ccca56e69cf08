use Rattle.std.proofs.Common.{◌≡◌, Ok, refl}
use Rattle.mdcc_leader.specs.Answers.{answer_alone}
use Rattle.mdcc_node.proofs.Led.{led-keeps, led-refused, led-sends, refused-left, residual}
use Rattle.mdcc_node.specs.Represents.{RepresentsCentre}
use Rattle.mdcc_def_protocol.specs.Facts.{epoch_of}
use Rattle.mdcc_def_protocol.specs.Leader.{lead}
use Rattle.mdcc_def_rules.specs.LeaderRules.{lead_step_fault}
use Rattle.mdcc_node.proofs.node.Node.lead_claim.Goals as goal

pub returns-in_err-answer : goal.returns-in_err-answer
returns-in_err-answer g c =
    let claim = c.args.claim.now in
    let fault = c.in_err-answer.field-0.0 in
    record {
      answer = λ cluster me facts volatile known.
          rw (residual c.from_residual.result (lead_step_fault fault) c.from_residual.ensures.1)
          (led-refused cluster.quorums me volatile claim (lead cluster me (epoch_of facts) facts volatile.leader claim) fault c.args.sends.now
          (rw known.of at (c.in_err-answer.ensures.answer me (epoch_of facts) facts volatile.leader known.store (rw known.of known.leader))));
      left = λ cluster me facts volatile known.
          rw (residual c.from_residual.result (lead_step_fault fault) c.from_residual.ensures.1)
          (refused-left cluster.quorums me volatile claim (lead cluster me (epoch_of facts) facts volatile.leader claim) fault
          (RepresentsCentre g.S.FactStore.stands (record c.args.self.now { leader = c.lead.new.self }) cluster me facts)
          (rw known.of at (c.in_err-answer.ensures.answer me (epoch_of facts) facts volatile.leader known.store (rw known.of known.leader)))
          (record {
            of = known.of;
            at = known.at;
            among = known.among;
            store = known.store;
            manager = known.manager;
            leader = c.in_err-answer.ensures.err me (epoch_of facts) cluster.quorums volatile.leader known.leader;
            recovery = known.recovery;
          }));
      store = refl;
    }

pub returns : goal.returns
returns g c =
    let claim = c.args.claim.now in
    record {
      answer = λ cluster me facts volatile known.
          let led = lead cluster me (epoch_of facts) facts volatile.leader claim in
          let is : Ok c.in_ok-answer.answer ≡ answer_alone led =
          rw known.of at (c.in_ok-answer.ensures.answer me (epoch_of facts) facts volatile.leader known.store (rw known.of known.leader)) in
          rw (led-sends cluster.quorums me volatile claim led c.in_ok-answer.answer c.args.sends.now is, c.in_ok-send_lead.ensures, c.number-centre.ensures.value, known.of, known.at) refl;
      left = λ cluster me facts volatile known.
          let led = lead cluster me (epoch_of facts) facts volatile.leader claim in
          rw (led-keeps cluster.quorums me volatile claim led) (record {
            of = known.of;
            at = known.at;
            among = known.among;
            store = known.store;
            manager = known.manager;
            leader = rw known.of at (c.in_ok-answer.ensures.ok me (epoch_of facts) facts volatile.leader known.store (rw known.of known.leader));
            recovery = known.recovery;
          });
      store = refl;
    }
