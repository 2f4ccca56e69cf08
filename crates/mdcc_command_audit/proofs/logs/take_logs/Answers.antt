use Rattle.std.proofs.Common.{◌≡◌, ◌∙◌, ◌+◌, ◌≤◌, Err, Ok, ap, arith, refl, rules, subst, sym, ℕ}
use Rattle.std.proofs.lemmas.Bool.{and_from, le-leb}
use Rattle.std.proofs.lemmas.Result.{err_from_is_err_and}
use Rattle.mdcc_audit.specs.Represents.{state_of}
use Rattle.mdcc_command_audit.proofs.Facts.{all_left, all_taken}
use Rattle.mdcc_command_audit.proofs.Ended.{unless_failed}
use Rattle.mdcc_command_audit.proofs.Refusals.{all_says, failed_says, says_still, told_still}
use Rattle.mdcc_command_audit.proofs.Stages.{done, its_disks, none_opened, opened_next, rose_still, state_next, stopped_keeps, stopped_opens, stopped_same}
use Rattle.mdcc_command_audit.specs.Audits.{IsElsewhere, KeepsDisks, SaysAt}
use Rattle.mdcc_node_log.proofs.Opens.{opens_whole}
use Rattle.mdcc_command_endings.specs.Logs.{node_booted_at}
use Rattle.mdcc_command_endings.specs.declared.fault.Failure.{Failure}
use Rattle.mdcc_log_file.specs.declared.fault.LogFault.{LogFault}
use Rattle.mdcc_command_audit.proofs.logs.take_logs.Goals as goal

pub loop-number-init : goal.loop-number-init
loop-number-init g c = record {
  stage = (0, refl, none_opened g.D.Disks.disk g.D.Disks.may_leave g.D.Disks.moment g.D.Disks.left_since g.D.Disks.tears c.args.cluster.now c.args.disks.now);
  state = λ told. all_left g.D.Disks.disk c.args.cluster.now.quorums c.args.disks.now c.args.cluster.now.quorums.centres (state_of c.new-audit.result) c.new-audit.ensures.state;
  quorums = c.new-audit.ensures.quorums;
}

pub take_next-requires : goal.take_next-requires
take_next-requires g c =
    let e : c.centre_at.result ≡ c.loop-number.number = c.centre_at.ensures in
    let among : c.centre_at.result ≤ c.args.cluster.now.quorums.centres = omega (e, arith) in
    let some : 1 ≤ c.centre_at.result = omega (e, arith) in
    and_from _ _ (le-leb 1 c.centre_at.result some) (le-leb c.centre_at.result c.args.cluster.now.quorums.centres among)

pub loop-number-preserved : goal.loop-number-preserved
loop-number-preserved g c =
    let before = c.loop-number.invariant in
    let e : c.centre_at.result ≡ c.loop-number.number = c.centre_at.ensures in
    let next : c.centre_at.result ≡ before.stage.0 + 1 = e ∙ before.stage.1 in
    let nine : c.args.cluster.now.quorums.centres ≤ 9 = c.requires in
    let low : c.centre_at.result ≤ 9 = omega (e, nine, arith) in
    let among : c.centre_at.result ≤ c.args.cluster.now.quorums.centres = omega (e, arith) in
    let some : 1 ≤ c.centre_at.result = omega (e, arith) in
    let is : c.take_next.result ≡ Ok tt = search rules in
    let its = its_disks g.D.Disks.disk g.D.Disks.may_leave g.D.Disks.moment g.D.Disks.left_since g.D.Disks.tears g.met.D.Disks.counts_now g.met.D.Disks.only_now c.args.cluster.now c.args.disks.now
    before.stage.0 c.centre_at.result next low c.loop-number.disks c.take_next.new.disks before.stage.2 in
    record {
      stage = (
        c.centre_at.result,
        ap (λ (n : ℕ). n + 1) (sym e),
        opened_next g.D.Disks.disk g.D.Disks.may_leave g.D.Disks.moment g.D.Disks.left_since g.D.Disks.tears g.met.D.Disks.counts_now g.met.D.Disks.only_now c.args.cluster.now c.args.disks.now
            before.stage.0 c.centre_at.result next low c.loop-number.disks c.take_next.new.disks before.stage.2 c.take_next.ensures.others c.take_next.result tt is c.take_next.ensures.opens
            c.in_ok-take_next.ensures.keeps c.in_ok-take_next.ensures.node,
      );
      state = λ told.
          let after = rw before.quorums at (c.in_ok-take_next.ensures.state (told_still g.D.Disks.disk c.args.cluster.now c.args.disks.now c.loop-number.disks c.centre_at.result its.0 its.1 (told c.centre_at.result (some, among)))) in
          state_next g.D.Disks.disk c.args.cluster.now c.args.disks.now c.loop-number.disks (state_of c.loop-number.audit) (state_of c.take_next.new.audit) c.centre_at.result c.loop-number.number c.args.cluster.now.quorums.centres
          e among its.0 its.1 after (before.state told);
      quorums = c.take_next.ensures.quorums ∙ before.quorums;
    }

-- ---- a log was refused, or memory lacked

pub returns-in_err-take_next-clause-logs : goal.returns-in_err-take_next-clause-logs
returns-in_err-take_next-clause-logs g c = λ told.
    let before = c.loop-number.invariant in
    let e : c.centre_at.result ≡ c.loop-number.number = c.centre_at.ensures in
    let next : c.centre_at.result ≡ before.stage.0 + 1 = e ∙ before.stage.1 in
    let nine : c.args.cluster.now.quorums.centres ≤ 9 = c.requires in
    let low : c.centre_at.result ≤ 9 = omega (e, nine, arith) in
    let among : c.centre_at.result ≤ c.args.cluster.now.quorums.centres = omega (e, arith) in
    let some : 1 ≤ c.centre_at.result = omega (e, arith) in
    let p = err_from_is_err_and c.from_residual.result c.from_residual.ensures.1 in
    let is : c.from_residual.result ≡ Err c.in_err-take_next.field-0.0 = cc (p.1, p.2) in
    let its = its_disks g.D.Disks.disk g.D.Disks.may_leave g.D.Disks.moment g.D.Disks.left_since g.D.Disks.tears g.met.D.Disks.counts_now g.met.D.Disks.only_now c.args.cluster.now c.args.disks.now
    before.stage.0 c.centre_at.result next low c.loop-number.disks c.take_next.new.disks before.stage.2 in
    rw is
    (failed_says (node_booted_at g.D.Disks.disk c.args.cluster.now c.args.disks.now) c.args.cluster.now.quorums.centres c.centre_at.result some among
    (λ b one less. before.stage.2.boots b (one, omega (less, next, arith)) (told b (one, omega (less, among, arith))))
    g.D.Disks.disk c.args.cluster.now c.args.disks.now refl (told c.centre_at.result (some, among)) c.in_err-take_next.field-0.0
    (says_still g.D.Disks.disk c.args.cluster.now c.args.disks.now c.loop-number.disks c.centre_at.result its.0 its.1 c.in_err-take_next.field-0.0 c.in_err-take_next.ensures.says))

pub returns-in_err-take_next-clause-fails : goal.returns-in_err-take_next-clause-fails
returns-in_err-take_next-clause-fails g c =
    let before = c.loop-number.invariant in
    let e : c.centre_at.result ≡ c.loop-number.number = c.centre_at.ensures in
    let next : c.centre_at.result ≡ before.stage.0 + 1 = e ∙ before.stage.1 in
    let nine : c.args.cluster.now.quorums.centres ≤ 9 = c.requires in
    let low : c.centre_at.result ≤ 9 = omega (e, nine, arith) in
    let p = err_from_is_err_and c.from_residual.result c.from_residual.ensures.1 in
    let is : c.from_residual.result ≡ Err c.in_err-take_next.field-0.0 = cc (p.1, p.2) in
    let its = its_disks g.D.Disks.disk g.D.Disks.may_leave g.D.Disks.moment g.D.Disks.left_since g.D.Disks.tears g.met.D.Disks.counts_now g.met.D.Disks.only_now c.args.cluster.now c.args.disks.now
    before.stage.0 c.centre_at.result next low c.loop-number.disks c.take_next.new.disks before.stage.2 in
    rw is
    (c.centre_at.result, says_still g.D.Disks.disk c.args.cluster.now c.args.disks.now c.loop-number.disks c.centre_at.result its.0 its.1 c.in_err-take_next.field-0.0 c.in_err-take_next.ensures.says)

pub returns-in_err-take_next-clause-disk : goal.returns-in_err-take_next-clause-disk
returns-in_err-take_next-clause-disk g c a = λ h.
    let before = c.loop-number.invariant in
    let e : c.centre_at.result ≡ c.loop-number.number = c.centre_at.ensures in
    let next : c.centre_at.result ≡ before.stage.0 + 1 = e ∙ before.stage.1 in
    let nine : c.args.cluster.now.quorums.centres ≤ 9 = c.requires in
    let low : c.centre_at.result ≤ 9 = omega (e, nine, arith) in
    let p = err_from_is_err_and c.from_residual.result c.from_residual.ensures.1 in
    let is : c.from_residual.result ≡ Err c.in_err-take_next.field-0.0 = cc (p.1, p.2) in
    let its = its_disks g.D.Disks.disk g.D.Disks.may_leave g.D.Disks.moment g.D.Disks.left_since g.D.Disks.tears g.met.D.Disks.counts_now g.met.D.Disks.only_now c.args.cluster.now c.args.disks.now
    before.stage.0 c.centre_at.result next low c.loop-number.disks c.take_next.new.disks before.stage.2 in
    let failed : c.in_err-take_next.field-0.0 ≡ Failure.Log a LogFault.DiskFault = cc (is, h) in
    let same : a ≡ c.centre_at.result = subst (λ (f : Failure). SaysAt g.D.Disks.disk c.args.cluster.now c.loop-number.disks c.centre_at.result f) failed c.in_err-take_next.ensures.says in
    rose_still g.D.Disks.disk c.args.disks.now c.loop-number.disks c.take_next.new.disks a c.centre_at.result same its.0 its.1 (c.in_err-take_next.ensures.disk a (rw failed refl))

pub returns-in_err-take_next-clause-keeps : goal.returns-in_err-take_next-clause-keeps
returns-in_err-take_next-clause-keeps g c =
    let before = c.loop-number.invariant in
    let e : c.centre_at.result ≡ c.loop-number.number = c.centre_at.ensures in
    let next : c.centre_at.result ≡ before.stage.0 + 1 = e ∙ before.stage.1 in
    let nine : c.args.cluster.now.quorums.centres ≤ 9 = c.requires in
    let low : c.centre_at.result ≤ 9 = omega (e, nine, arith) in
    let among : c.centre_at.result ≤ c.args.cluster.now.quorums.centres = omega (e, arith) in
    let p = err_from_is_err_and c.from_residual.result c.from_residual.ensures.1 in
    let is : c.from_residual.result ≡ Err c.in_err-take_next.field-0.0 = cc (p.1, p.2) in
    stopped_same g.D.Disks.disk g.D.Disks.may_leave g.D.Disks.moment g.D.Disks.left_since g.D.Disks.tears g.met.D.Disks.counts_now g.met.D.Disks.only_now c.args.cluster.now c.args.disks.now
    before.stage.0 c.centre_at.result next low c.loop-number.disks c.take_next.new.disks before.stage.2 c.take_next.ensures.others c.from_residual.result c.in_err-take_next.field-0.0 is c.args.cluster.now.quorums.centres nine among
    (λ all told read. unless_failed (Unit {0}) c.from_residual.result c.in_err-take_next.field-0.0 _ is (c.in_err-take_next.ensures.keeps all told read))

pub returns-in_err-take_next-clause-opens : goal.returns-in_err-take_next-clause-opens
returns-in_err-take_next-clause-opens g c =
    let before = c.loop-number.invariant in
    let e : c.centre_at.result ≡ c.loop-number.number = c.centre_at.ensures in
    let next : c.centre_at.result ≡ before.stage.0 + 1 = e ∙ before.stage.1 in
    let nine : c.args.cluster.now.quorums.centres ≤ 9 = c.requires in
    let low : c.centre_at.result ≤ 9 = omega (e, nine, arith) in
    let among : c.centre_at.result ≤ c.args.cluster.now.quorums.centres = omega (e, arith) in
    let p = err_from_is_err_and c.from_residual.result c.from_residual.ensures.1 in
    let is : c.from_residual.result ≡ Err c.in_err-take_next.field-0.0 = cc (p.1, p.2) in
    stopped_opens g.D.Disks.disk g.D.Disks.may_leave g.D.Disks.moment g.D.Disks.left_since g.D.Disks.tears g.met.D.Disks.counts_now g.met.D.Disks.only_now c.args.cluster.now c.args.disks.now
    before.stage.0 c.centre_at.result next low c.loop-number.disks c.take_next.new.disks before.stage.2 c.take_next.ensures.others c.from_residual.result c.in_err-take_next.field-0.0 is c.args.cluster.now.quorums.centres nine among
    c.take_next.result c.take_next.ensures.opens

pub returns-in_err-take_next-clause-others : goal.returns-in_err-take_next-clause-others
returns-in_err-take_next-clause-others g c =
    let before = c.loop-number.invariant in
    let e : c.centre_at.result ≡ c.loop-number.number = c.centre_at.ensures in
    let next : c.centre_at.result ≡ before.stage.0 + 1 = e ∙ before.stage.1 in
    let nine : c.args.cluster.now.quorums.centres ≤ 9 = c.requires in
    let low : c.centre_at.result ≤ 9 = omega (e, nine, arith) in
    let among : c.centre_at.result ≤ c.args.cluster.now.quorums.centres = omega (e, arith) in
    let p = err_from_is_err_and c.from_residual.result c.from_residual.ensures.1 in
    let is : c.from_residual.result ≡ Err c.in_err-take_next.field-0.0 = cc (p.1, p.2) in
    stopped_keeps g.D.Disks.disk g.D.Disks.may_leave g.D.Disks.moment g.D.Disks.left_since g.D.Disks.tears g.met.D.Disks.counts_now g.met.D.Disks.only_now c.args.cluster.now c.args.disks.now
    before.stage.0 c.centre_at.result next low c.loop-number.disks c.take_next.new.disks before.stage.2 c.take_next.ensures.others c.from_residual.result c.in_err-take_next.field-0.0 is c.args.cluster.now.quorums.centres nine among

-- ---- all were opened

pub returns-clause-state : goal.returns-clause-state
returns-clause-state g c = λ told.
    all_taken g.D.Disks.disk c.args.cluster.now.quorums c.args.disks.now (state_of c.loop-number.audit) c.loop-number.number c.args.cluster.now.quorums.centres (omega arith) (c.loop-number.invariant.state told)

pub returns-clause-logs : goal.returns-clause-logs
returns-clause-logs g c = λ told.
    let stage = c.loop-number.invariant.stage in
    let whole : stage.0 ≡ c.args.cluster.now.quorums.centres = (let next = stage.1 in omega (next, arith)) in
    all_says (node_booted_at g.D.Disks.disk c.args.cluster.now c.args.disks.now) c.args.cluster.now.quorums.centres _ tt (λ b one. stage.2.boots b (one.0, omega (one.1, whole, arith)) (told b one))

pub returns-clause-keeps : goal.returns-clause-keeps
returns-clause-keeps g c a all one told read =
    let stage = c.loop-number.invariant.stage in
    let whole : stage.0 ≡ c.args.cluster.now.quorums.centres = (let next = stage.1 in omega (next, arith)) in
    stage.2.same a all (one.0, omega (one.1, whole, arith)) told read

pub returns-clause-opens : goal.returns-clause-opens
returns-clause-opens g c a one =
    let stage = c.loop-number.invariant.stage in
    let whole : stage.0 ≡ c.args.cluster.now.quorums.centres = (let next = stage.1 in omega (next, arith)) in
    opens_whole g.D.Disks.disk g.D.Disks.may_leave g.D.Disks.moment g.D.Disks.left_since g.D.Disks.tears c.args.disks.now c.loop-number.disks done _ a tt refl (stage.2.opens a (one.0, omega (one.1, whole, arith)))

pub returns-clause-others : goal.returns-clause-others
returns-clause-others g c =
    let stage = c.loop-number.invariant.stage in
    let whole : stage.0 ≡ c.args.cluster.now.quorums.centres = (let next = stage.1 in omega (next, arith)) in
    subst (λ (n : ℕ). KeepsDisks g.D.Disks.disk g.D.Disks.may_leave g.D.Disks.moment g.D.Disks.left_since (IsElsewhere n) c.args.disks.now c.loop-number.disks) whole stage.2.keeps
