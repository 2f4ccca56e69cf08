use Rattle.std.proofs.Common.{Err, IfErr, inl, inr, refl, subst, sym, ℕ, ◌≡◌, ◌⊎◌}
use Rattle.std.proofs.KnownBytes.{Appends-nil}
use Rattle.std.proofs.lemmas.Result.{IfErr-weaker, err_from_is_err_and}
use Rattle.mdcc_audit.specs.Auditing.{State, audit_end}
use Rattle.mdcc_audit.specs.Logs.{audit_of}
use Rattle.mdcc_command_audit.proofs.Ended.{audited_runs, log_not_early, not_printing, nothing_answered, only_printing, says_again, says_printed, some_open, unless_broke, unread_runs}
use Rattle.mdcc_command_audit.proofs.Places.{elsewhere_fewer}
use Rattle.mdcc_command_audit.proofs.Stages.{unless_so}
use Rattle.mdcc_command_audit.specs.Audits.{GivesVerdicts, IsPrintFailure, SaysAt, logs_on, some_calls}
use Rattle.mdcc_command_audit.specs.Commands.{AuditsLogs}
use Rattle.mdcc_base.specs.declared.source.ReadAllFault.{ReadAllFault}
use Rattle.mdcc_node_log.proofs.Opens.{opens_broke, opens_whole}
use Rattle.mdcc_command_dump.proofs.Places.{opens_none}
use Rattle.mdcc_command_endings.specs.Logs.{node_booted_at}
use Rattle.mdcc_command_endings.specs.Readings.{IsEarly, IsOfInput}
use Rattle.mdcc_command_endings.specs.declared.fault.Failure.{Failure}
use Rattle.mdcc_log_file.specs.declared.fault.LogFault.{LogFault}
use Rattle.mdcc_command_audit.proofs.command.audit_logs.Goals as goal

-- ---- no configuration

pub returns-in_err-config-clause-runs : goal.returns-in_err-config-clause-runs
returns-in_err-config-clause-runs g c =
    let p = err_from_is_err_and c.from_residual.result c.from_residual.ensures.1 in
    let e : c.from_residual.result ≡ Err c.in_err-config.field-0.0 = cc (p.1, p.2) in
    unread_runs g.D.Disks.disk g.D.Disks.may_leave g.D.Disks.moment g.D.Disks.left_since g.D.Disks.tears g.O.Sink.held c.args.disks.now c.args.disks.now c.args.out.now c.args.out.now (g.S.Source.left c.args.source.now)
    c.in_err-config.field-0.0 c.from_residual.result e (record { disks = refl; output = refl }) c.in_err-config.ensures.config

pub returns-in_err-config-clause-early : goal.returns-in_err-config-clause-early
returns-in_err-config-clause-early g c =
    let p = err_from_is_err_and c.from_residual.result c.from_residual.ensures.1 in
    rw p.1 (λ early. record { disks = refl; output = refl })

pub returns-in_err-config-clause-link : goal.returns-in_err-config-clause-link
returns-in_err-config-clause-link g c = λ h.
    let p = err_from_is_err_and c.from_residual.result c.from_residual.ensures.1 in
    let same : c.in_err-config.field-0.0 ≡ Failure.Link = cc (p.1, p.2, h) in
    subst (λ (f : Failure). IsOfInput f) same c.in_err-config.ensures.of_input

pub returns-in_err-config-clause-input : goal.returns-in_err-config-clause-input
returns-in_err-config-clause-input g c = λ h.
    let p = err_from_is_err_and c.from_residual.result c.from_residual.ensures.1 in
    let same : c.in_err-config.field-0.0 ≡ Failure.Input ReadAllFault.Failed = cc (p.1, p.2, h) in
    c.in_err-config.ensures.failed (rw same refl)

pub returns-in_err-config-clause-disk : goal.returns-in_err-config-clause-disk
returns-in_err-config-clause-disk g c a = λ h.
    let p = err_from_is_err_and c.from_residual.result c.from_residual.ensures.1 in
    let same : c.in_err-config.field-0.0 ≡ Failure.Log a LogFault.DiskFault = cc (p.1, p.2, h) in
    absurd (subst (λ (f : Failure). IsOfInput f) same c.in_err-config.ensures.of_input)

pub returns-in_err-config-clause-output : goal.returns-in_err-config-clause-output
returns-in_err-config-clause-output g c = λ h.
    let p = err_from_is_err_and c.from_residual.result c.from_residual.ensures.1 in
    let same : c.in_err-config.field-0.0 ≡ Failure.Output = cc (p.1, p.2, h) in
    absurd (subst (λ (f : Failure). IsOfInput f) same c.in_err-config.ensures.of_input)

pub returns-in_err-config-clause-opens : goal.returns-in_err-config-clause-opens
returns-in_err-config-clause-opens g c a = λ one. opens_none g.D.Disks.disk g.D.Disks.may_leave g.D.Disks.moment g.D.Disks.left_since g.D.Disks.tears g.met.D.Disks.only_now c.args.disks.now a some_calls tt refl

-- ---- a log was refused, or memory lacked

pub take_logs-requires : goal.take_logs-requires
take_logs-requires g c = c.in_ok-config.ensures.meets.quorums.nine_centres

pub returns-in_err-audit-clause-runs : goal.returns-in_err-audit-clause-runs
returns-in_err-audit-clause-runs g c =
    let p = err_from_is_err_and c.from_residual-in_err-audit.result c.from_residual-in_err-audit.ensures.1 in
    let failure = c.in_err-audit.field-0.0 in
    let cluster = c.in_ok-config.config.cluster in
    let e : c.from_residual-in_err-audit.result ≡ Err failure = cc (p.1, p.2) in
    let all : AuditsLogs g.D.Disks.disk g.D.Disks.may_leave g.D.Disks.moment g.D.Disks.left_since g.D.Disks.tears g.O.Sink.held c.args.disks.now c.take_logs.new.disks c.args.out.now c.args.out.now c.in_ok-config.config c.from_residual-in_err-audit.result = record {
      logs = λ told. says_again (node_booted_at g.D.Disks.disk cluster c.args.disks.now) cluster.quorums.centres c.from_residual-in_err-audit.result failure e (c.in_err-audit.ensures.logs told);
      answers = λ told.
          let expected = audit_of cluster.quorums (logs_on g.D.Disks.disk c.args.disks.now cluster) in
          subst (λ r. GivesVerdicts expected r (g.O.Sink.held c.args.out.now) (g.O.Sink.held c.args.out.now)) (sym e)
          (nothing_answered expected failure (g.O.Sink.held c.args.out.now) (g.O.Sink.held c.args.out.now)
          (λ is. subst (λ (f : Failure). SaysAt g.D.Disks.disk cluster c.args.disks.now c.in_err-audit.ensures.fails.0 f) is c.in_err-audit.ensures.fails.1) (Appends-nil (g.O.Sink.held c.args.out.now)));
      fails = subst (λ r. IfErr r (λ (f : Failure). IsPrintFailure f ⊎ ((a : ℕ) × SaysAt g.D.Disks.disk cluster c.args.disks.now a f))) (sym e) (inr c.in_err-audit.ensures.fails);
      opens = λ a one. opens_broke g.D.Disks.disk g.D.Disks.may_leave g.D.Disks.moment g.D.Disks.left_since g.D.Disks.tears c.args.disks.now c.take_logs.new.disks c.take_logs.result c.from_residual-in_err-audit.result a failure e
          (c.take_logs.ensures.opens a one);
      keeps = λ a all one told read. unless_broke c.take_logs.result c.from_residual-in_err-audit.result failure _ c.in_err-audit.was e (c.take_logs.ensures.keeps a all one told read);
      others = c.take_logs.ensures.others.disks;
    } in
    audited_runs g.D.Disks.disk g.D.Disks.may_leave g.D.Disks.moment g.D.Disks.left_since g.D.Disks.tears g.O.Sink.held c.args.disks.now c.take_logs.new.disks c.args.out.now c.args.out.now (g.S.Source.left c.args.source.now)
    c.in_ok-config.config c.from_residual-in_err-audit.result all c.in_ok-config.ensures.config

pub returns-in_err-audit-clause-early : goal.returns-in_err-audit-clause-early
returns-in_err-audit-clause-early g c =
    let p = err_from_is_err_and c.from_residual-in_err-audit.result c.from_residual-in_err-audit.ensures.1 in
    rw (p.1, p.2) (λ early. absurd (log_not_early g.D.Disks.disk c.args.disks.now c.in_err-audit.ensures.fails.0 c.in_ok-config.config.cluster c.in_err-audit.field-0.0 c.in_err-audit.ensures.fails.1 early))

pub returns-in_err-audit-clause-link : goal.returns-in_err-audit-clause-link
returns-in_err-audit-clause-link g c = λ h.
    let p = err_from_is_err_and c.from_residual-in_err-audit.result c.from_residual-in_err-audit.ensures.1 in
    let same : c.in_err-audit.field-0.0 ≡ Failure.Link = cc (p.1, p.2, h) in
    subst (λ (f : Failure). SaysAt g.D.Disks.disk c.in_ok-config.config.cluster c.args.disks.now c.in_err-audit.ensures.fails.0 f) same c.in_err-audit.ensures.fails.1

pub returns-in_err-audit-clause-input : goal.returns-in_err-audit-clause-input
returns-in_err-audit-clause-input g c = λ h.
    let p = err_from_is_err_and c.from_residual-in_err-audit.result c.from_residual-in_err-audit.ensures.1 in
    let same : c.in_err-audit.field-0.0 ≡ Failure.Input ReadAllFault.Failed = cc (p.1, p.2, h) in
    absurd (subst (λ (f : Failure). SaysAt g.D.Disks.disk c.in_ok-config.config.cluster c.args.disks.now c.in_err-audit.ensures.fails.0 f) same c.in_err-audit.ensures.fails.1)

pub returns-in_err-audit-clause-output : goal.returns-in_err-audit-clause-output
returns-in_err-audit-clause-output g c = λ h.
    let p = err_from_is_err_and c.from_residual-in_err-audit.result c.from_residual-in_err-audit.ensures.1 in
    let same : c.in_err-audit.field-0.0 ≡ Failure.Output = cc (p.1, p.2, h) in
    absurd (subst (λ (f : Failure). SaysAt g.D.Disks.disk c.in_ok-config.config.cluster c.args.disks.now c.in_err-audit.ensures.fails.0 f) same c.in_err-audit.ensures.fails.1)

pub returns-in_err-audit-clause-disk : goal.returns-in_err-audit-clause-disk
returns-in_err-audit-clause-disk g c a = λ h.
    let p = err_from_is_err_and c.from_residual-in_err-audit.result c.from_residual-in_err-audit.ensures.1 in
    let same : c.in_err-audit.field-0.0 ≡ Failure.Log a LogFault.DiskFault = cc (p.1, p.2, h) in
    c.in_err-audit.ensures.disk a (rw same refl)

pub returns-in_err-audit-clause-opens : goal.returns-in_err-audit-clause-opens
returns-in_err-audit-clause-opens g c a =
    some_open g.D.Disks.disk g.D.Disks.may_leave g.D.Disks.moment g.D.Disks.left_since g.D.Disks.tears g.met.D.Disks.counts_now g.met.D.Disks.only_now c.take_logs.result c.in_ok-config.config.cluster.quorums.centres
    c.args.disks.now c.take_logs.new.disks c.in_ok-config.ensures.meets.quorums.nine_centres c.take_logs.ensures.opens c.take_logs.ensures.others a

pub returns-in_err-audit-clause-others : goal.returns-in_err-audit-clause-others
returns-in_err-audit-clause-others g c p is = c.take_logs.ensures.others.disks p (elsewhere_fewer c.in_ok-config.config.cluster.quorums.centres 9 p c.in_ok-config.ensures.meets.quorums.nine_centres is)

-- ---- all were opened

pub returns-clause-runs : goal.returns-clause-runs
returns-clause-runs g c =
    let cluster = c.in_ok-config.config.cluster in
    let all : AuditsLogs g.D.Disks.disk g.D.Disks.may_leave g.D.Disks.moment g.D.Disks.left_since g.D.Disks.tears g.O.Sink.held c.args.disks.now c.take_logs.new.disks c.args.out.now c.print_audit.new.out c.in_ok-config.config c.print_audit.result = record {
      logs = λ told. says_printed (node_booted_at g.D.Disks.disk cluster c.args.disks.now) cluster.quorums.centres c.in_ok-audit.audit c.print_audit.result c.print_audit.ensures.fault (c.in_ok-audit.ensures.logs told);
      answers = λ told.
          subst (λ (s : State). GivesVerdicts (audit_end s) c.print_audit.result (g.O.Sink.held c.args.out.now) (g.O.Sink.held c.print_audit.new.out)) (c.in_ok-audit.ensures.state told) c.print_audit.ensures.answers;
      fails = IfErr-weaker c.print_audit.result _ _ (λ failure may. inl may) c.print_audit.ensures.fault;
      opens = λ a one. opens_whole g.D.Disks.disk g.D.Disks.may_leave g.D.Disks.moment g.D.Disks.left_since g.D.Disks.tears c.args.disks.now c.take_logs.new.disks c.take_logs.result c.print_audit.result a c.in_ok-audit.audit c.in_ok-audit.was
          (c.take_logs.ensures.opens a one);
      keeps = λ a all one told read. unless_so c.print_audit.result _ (c.in_ok-audit.ensures.keeps a all one told read);
      others = c.take_logs.ensures.others.disks;
    } in
    audited_runs g.D.Disks.disk g.D.Disks.may_leave g.D.Disks.moment g.D.Disks.left_since g.D.Disks.tears g.O.Sink.held c.args.disks.now c.take_logs.new.disks c.args.out.now c.print_audit.new.out (g.S.Source.left c.args.source.now)
    c.in_ok-config.config c.print_audit.result all c.in_ok-config.ensures.config

pub returns-clause-early : goal.returns-clause-early
returns-clause-early g c =
    IfErr-weaker c.print_audit.result _ _ (λ failure may early. absurd (only_printing failure (λ (f : Failure). IsEarly f → ⊥) may (λ h. h) (λ h. h) early)) c.print_audit.ensures.fault

pub returns-clause-link : goal.returns-clause-link
returns-clause-link g c = λ h. not_printing c.print_audit.result Failure.Link c.print_audit.ensures.fault (λ e. absurd (cc (e))) (λ e. absurd (cc (e))) h

pub returns-clause-input : goal.returns-clause-input
returns-clause-input g c = λ h. absurd (not_printing c.print_audit.result (Failure.Input ReadAllFault.Failed) c.print_audit.ensures.fault (λ e. absurd (cc (e))) (λ e. absurd (cc (e))) h)

pub returns-clause-disk : goal.returns-clause-disk
returns-clause-disk g c a = λ h. absurd (not_printing c.print_audit.result (Failure.Log a LogFault.DiskFault) c.print_audit.ensures.fault (λ e. absurd (cc (e))) (λ e. absurd (cc (e))) h)

pub returns-clause-opens : goal.returns-clause-opens
returns-clause-opens g c a =
    some_open g.D.Disks.disk g.D.Disks.may_leave g.D.Disks.moment g.D.Disks.left_since g.D.Disks.tears g.met.D.Disks.counts_now g.met.D.Disks.only_now c.take_logs.result c.in_ok-config.config.cluster.quorums.centres
    c.args.disks.now c.take_logs.new.disks c.in_ok-config.ensures.meets.quorums.nine_centres c.take_logs.ensures.opens c.take_logs.ensures.others a

pub returns-clause-others : goal.returns-clause-others
returns-clause-others g c p is = c.take_logs.ensures.others.disks p (elsewhere_fewer c.in_ok-config.config.cluster.quorums.centres 9 p c.in_ok-config.ensures.meets.quorums.nine_centres is)
