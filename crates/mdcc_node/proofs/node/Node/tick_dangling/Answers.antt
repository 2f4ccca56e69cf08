use Rattle.std.proofs.Common.{◌≡◌, List, Ok, Result, ◌++◌, ◌∙◌, [], append_assoc, append-nil, arith, refl}
use Rattle.std.proofs.lemmas.List.{drop_all}
use Rattle.mdcc_def_messages.specs.declared.messages.Envelope.{Envelope}
use Rattle.mdcc_def_rules.specs.declared.node.StepFault.{StepFault}
use Rattle.mdcc_node.proofs.Ending.{fold-next}
use Rattle.mdcc_node.proofs.Led.{residual}
use Rattle.mdcc_node.proofs.Planned.{only-memory, only-memory-left}
use Rattle.mdcc_def_protocol.specs.Facts.{epoch_of}
use Rattle.mdcc_def_protocol.specs.Recover.{tick}
use Rattle.mdcc_def_protocol.specs.Volatile.{txs_opened, with_recovery}
use Rattle.mdcc_def_rules.specs.Steps.{only_sending, part_and_then}
use Rattle.mdcc_def_rules.specs.TickRules.{recovery_act, recovery_ticked}
use Rattle.mdcc_node.proofs.node.Node.tick_dangling.Goals as goal
use Rattle.mdcc_def_rules.specs.Here.{here}

-- what a call that does not fail gives
abbrev given_sends : List Envelope → Result (List Envelope) StepFault
given_sends sends = Ok sends

pub loop-act-init : goal.loop-act-init
loop-act-init g c = record {
  store = refl;
  parts = λ cluster me facts volatile known.
      let opened = c.opened.ensures.value me (epoch_of facts) cluster.quorums volatile.manager known.manager in
      let next = tick cluster.quorums facts volatile.recovery (txs_opened volatile.manager) in (
        only_sending (with_recovery volatile next.1) [],
        rw (append-nil c.args.sends.now) refl,
        record {
          of = known.of;
          at = known.at;
          among = known.among;
          store = known.store;
          manager = known.manager;
          leader = known.leader;
          recovery = rw opened at (c.in_ok-acts.ensures.ok cluster.quorums facts volatile.recovery known.store known.recovery);
        },
        rw (c.deref-act-items.ensures.value, c.in_ok-acts.ensures.acts cluster.quorums facts volatile.recovery known.store known.recovery, opened) refl,
      );
}

pub returns-in_err-recover_by : goal.returns-in_err-recover_by
returns-in_err-recover_by g c =
    let fault = c.in_err-recover_by.field-0.0 in
    let same = residual c.from_residual-in_err-recover_by.result fault c.from_residual-in_err-recover_by.ensures.1 in
    record {
      answer = λ cluster me facts volatile known.
          let so = c.loop-act.invariant.parts cluster me facts volatile known in
          rw same (only-memory fault _ _ (c.in_err-recover_by.ensures.answer cluster me facts so.0.after so.2));
      left = λ cluster me facts volatile known.
          let so = c.loop-act.invariant.parts cluster me facts volatile known in
          rw same (only-memory-left fault _ _ (c.in_err-recover_by.ensures.answer cluster me facts so.0.after so.2));
      store = c.in_err-recover_by.ensures.store ∙ c.loop-act.invariant.store;
    }

pub loop-act-preserved : goal.loop-act-preserved
loop-act-preserved g c = record {
  store = c.in_ok-recover_by.ensures.store ∙ c.loop-act.invariant.store;
  parts = λ cluster me facts volatile known.
      let so = c.loop-act.invariant.parts cluster me facts volatile known in
      let part = so.0 in
      let acted = recovery_act (here cluster me facts) part.after c.act-item.result in
      let given : given_sends c.recover_by.new.sends ≡ given_sends (c.loop-act.sends ++ acted.sends) = c.in_ok-recover_by.ensures.answer cluster me facts part.after so.2 in
      let now : c.recover_by.new.sends ≡ c.loop-act.sends ++ acted.sends = cc in (
        part_and_then (recovery_act (here cluster me facts)) part c.act-item.result,
        rw (now, so.1, append_assoc) refl,
        c.in_ok-recover_by.ensures.left cluster me facts part.after so.2,
        fold-next (part_and_then (recovery_act (here cluster me facts))) c.deref-act-items.result.now c.loop-act.act-index c.act-item.result part
            (recovery_ticked (here cluster me facts) (only_sending volatile [])) (omega (arith, c.loop-act-test.true)) c.act-item.is so.3,
      );
}

pub returns : goal.returns
returns g c = record {
  answer = λ cluster me facts volatile known.
      let so = c.loop-act.invariant.parts cluster me facts volatile known in
      let past = drop_all c.loop-act.act-index c.deref-act-items.result.now (omega (arith, c.loop-act-test.false)) in
      let done : so.0 ≡ recovery_ticked (here cluster me facts) (only_sending volatile []) = rw past at so.3 in
      rw (so.1, done) refl;
  left = λ cluster me facts volatile known.
      let so = c.loop-act.invariant.parts cluster me facts volatile known in
      let past = drop_all c.loop-act.act-index c.deref-act-items.result.now (omega (arith, c.loop-act-test.false)) in
      let done : so.0 ≡ recovery_ticked (here cluster me facts) (only_sending volatile []) = rw past at so.3 in
      rw (← done) so.2;
  store = c.loop-act.invariant.store;
}
