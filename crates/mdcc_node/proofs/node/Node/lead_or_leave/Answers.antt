use Rattle.std.proofs.Common.{◌≡◌, Ok, refl}
use Rattle.mdcc_leader.specs.Answers.{answer_alone}
use Rattle.mdcc_node.proofs.Led.{tick-keeps, tick-left, tick-refused, tick-sends}
use Rattle.mdcc_node.specs.Represents.{RepresentsCentre}
use Rattle.mdcc_def_protocol.specs.Facts.{epoch_of}
use Rattle.mdcc_def_protocol.specs.Leader.{lead}
use Rattle.mdcc_node.proofs.node.Node.lead_or_leave.Goals as goal

pub returns-in_ok-send_lead-in-Ok : goal.returns-in_ok-send_lead-in-Ok
returns-in_ok-send_lead-in-Ok g c =
    let claim = c.args.claim.now in
    record {
      answer = λ cluster me facts volatile known.
          let led = lead cluster me (epoch_of facts) facts volatile.leader claim in
          let is : Ok c.in-Ok.answer ≡ answer_alone led =
          rw known.of at (c.in-Ok.ensures.answer me (epoch_of facts) facts volatile.leader known.store (rw known.of known.leader)) in
          rw (tick-sends cluster.quorums me volatile claim led c.in-Ok.answer is, c.in_ok-send_lead-in-Ok.ensures, c.number-centre.ensures.value, known.of, known.at) refl;
      left = λ cluster me facts volatile known.
          let led = lead cluster me (epoch_of facts) facts volatile.leader claim in
          rw (tick-keeps cluster.quorums me volatile claim led) (record {
            of = known.of;
            at = known.at;
            among = known.among;
            store = known.store;
            manager = known.manager;
            leader = rw known.of at (c.in-Ok.ensures.ok me (epoch_of facts) facts volatile.leader known.store (rw known.of known.leader));
            recovery = known.recovery;
          });
      store = refl;
    }

pub returns-in-Err : goal.returns-in-Err
returns-in-Err g c =
    let claim = c.args.claim.now in
    let fault = c.in-Err.fault in
    record {
      answer = λ cluster me facts volatile known.
          rw c.leave_out.ensures
          (tick-refused cluster.quorums me volatile claim (lead cluster me (epoch_of facts) facts volatile.leader claim) fault c.args.sends.now
          (rw known.of at (c.in-Err.ensures.answer me (epoch_of facts) facts volatile.leader known.store (rw known.of known.leader))));
      left = λ cluster me facts volatile known.
          rw c.leave_out.ensures
          (tick-left cluster.quorums me volatile claim (lead cluster me (epoch_of facts) facts volatile.leader claim) fault c.args.sends.now
          (RepresentsCentre g.S.FactStore.stands (record c.args.self.now { leader = c.lead.new.self }) cluster me facts)
          (rw known.of at (c.in-Err.ensures.answer me (epoch_of facts) facts volatile.leader known.store (rw known.of known.leader)))
          (record {
            of = known.of;
            at = known.at;
            among = known.among;
            store = known.store;
            manager = known.manager;
            leader = c.in-Err.ensures.err me (epoch_of facts) cluster.quorums volatile.leader known.leader;
            recovery = known.recovery;
          }));
      store = refl;
    }
