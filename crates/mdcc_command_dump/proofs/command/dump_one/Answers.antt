use Rattle.std.proofs.Common.{◌≡◌, ◌+◌, ◌∙◌, Err, Result, refl, subst, sym, true, ℕ}
use Rattle.std.proofs.lemmas.Result.{err_from_is_err_and}
use Rattle.mdcc_log_file.specs.Both.{KeepsBut, RoseAtOne}
use Rattle.mdcc_log_file.specs.declared.fault.LogFault.{LogFault}
use Rattle.mdcc_base.specs.declared.source.ReadAllFault.{ReadAllFault}
use Rattle.mdcc_command_dump.proofs.Ended.{disk_dumped, dumped_runs, no_centre_runs, no_input, no_link, not_early, output_dumped, unread_runs}
use Rattle.mdcc_command_dump.proofs.Places.{but_unchanged, opens_done, opens_none, stays_unchanged}
use Rattle.mdcc_command_dump.proofs.Said.{dump_says}
use Rattle.mdcc_command_dump.specs.Commands.{DumpsOne, UntouchedDisks}
use Rattle.mdcc_node_log.specs.Opening.{OnlyOpens, StaysAsLog}
use Rattle.mdcc_command_endings.specs.Readings.{IsOfInput}
use Rattle.mdcc_command_endings.specs.declared.fault.Failure.{Failure}
use Rattle.mdcc_def_protocol.specs.Belongs.{is_centre}
use Rattle.mdcc_command_dump.proofs.command.dump_one.Goals as goal

-- ---- no configuration

pub returns-in_err-config-clause-runs : goal.returns-in_err-config-clause-runs
returns-in_err-config-clause-runs g c =
    let p = err_from_is_err_and c.from_residual.result c.from_residual.ensures.1 in
    let e : c.from_residual.result ≡ Err c.in_err-config.field-0.0 = cc (p.1, p.2) in
    unread_runs g.D.Disks.disk g.O.Sink.held c.args.disks.now c.args.disks.now c.args.out.now c.args.out.now (g.S.Source.left c.args.source.now) c.args.number c.in_err-config.field-0.0 c.from_residual.result e (record { disks = refl; output = refl }) c.in_err-config.ensures.config

pub returns-in_err-config-clause-early : goal.returns-in_err-config-clause-early
returns-in_err-config-clause-early g c =
    let p = err_from_is_err_and c.from_residual.result c.from_residual.ensures.1 in
    rw p.1 (λ early. record { disks = refl; output = refl })

pub returns-in_err-config-clause-link : goal.returns-in_err-config-clause-link
returns-in_err-config-clause-link g c = λ h.
    let p = err_from_is_err_and c.from_residual.result c.from_residual.ensures.1 in
    let same : c.in_err-config.field-0.0 ≡ Failure.Link = cc (p.1, p.2, h) in
    subst (λ (f : Failure). IsOfInput f) same c.in_err-config.ensures.of_input

pub returns-in_err-config-clause-input : goal.returns-in_err-config-clause-input
returns-in_err-config-clause-input g c = λ h.
    let p = err_from_is_err_and c.from_residual.result c.from_residual.ensures.1 in
    let same : c.in_err-config.field-0.0 ≡ Failure.Input ReadAllFault.Failed = cc (p.1, p.2, h) in
    c.in_err-config.ensures.failed (rw same refl)

pub returns-in_err-config-clause-disk : goal.returns-in_err-config-clause-disk
returns-in_err-config-clause-disk g c a = λ h.
    let p = err_from_is_err_and c.from_residual.result c.from_residual.ensures.1 in
    let same : c.in_err-config.field-0.0 ≡ Failure.Log a LogFault.DiskFault = cc (p.1, p.2, h) in
    absurd (subst (λ (f : Failure). IsOfInput f) same c.in_err-config.ensures.of_input)

pub returns-in_err-config-clause-output : goal.returns-in_err-config-clause-output
returns-in_err-config-clause-output g c = λ h.
    let p = err_from_is_err_and c.from_residual.result c.from_residual.ensures.1 in
    let same : c.in_err-config.field-0.0 ≡ Failure.Output = cc (p.1, p.2, h) in
    absurd (subst (λ (f : Failure). IsOfInput f) same c.in_err-config.ensures.of_input)

-- ---- no such centre

pub returns-in_default-clause-runs : goal.returns-in_default-clause-runs
returns-in_default-clause-runs g c =
    no_centre_runs g.D.Disks.disk g.O.Sink.held c.args.disks.now c.args.disks.now c.args.out.now c.args.out.now (g.S.Source.left c.args.source.now) c.args.number c.in_ok-config.config
    (c.centre_of.ensures.none c.in_default.is) (record { disks = refl; output = refl }) c.in_ok-config.ensures.config

-- ---- a dump

pub returns-clause-runs : goal.returns-clause-runs
returns-clause-runs g c =
    let one : DumpsOne g.D.Disks.disk g.O.Sink.held c.args.disks.now c.dump.new.disks c.args.out.now c.dump.new.out c.in_ok-config.config c.in-Some.centre c.as_done.result = record {
      result = c.dump.result;
      is = c.as_done.ensures;
      dumps = λ all told told_other read. (c.dump.ensures.dumps all told told_other read, c.dump.ensures.keeps all told told_other read);
      unread = c.dump.ensures.unread;
      causes = c.dump.ensures.causes;
      logs = dump_says g.D.Disks.disk c.in_ok-config.config.cluster c.args.disks.now c.dump.new.disks c.in-Some.centre c.dump.result c.as_done.result (g.O.Sink.held c.args.out.now) (g.O.Sink.held c.dump.new.out)
          c.as_done.ensures c.dump.ensures.dumps c.dump.ensures.unread;
    } in
    dumped_runs g.D.Disks.disk g.O.Sink.held c.args.disks.now c.dump.new.disks c.args.out.now c.dump.new.out (g.S.Source.left c.args.source.now) c.in-Some.centre c.args.number c.in_ok-config.config c.as_done.result
    c.in-Some.ensures.some.0 c.in-Some.ensures.some.1 one c.in_ok-config.ensures.config

pub returns-clause-early : goal.returns-clause-early
returns-clause-early g c = not_early (UntouchedDisks c.args.disks.now c.dump.new.disks c.args.out.now c.dump.new.out) c.in-Some.centre c.dump.result c.as_done.result c.as_done.ensures

pub returns-clause-link : goal.returns-clause-link
returns-clause-link g c = λ h. no_link c.in-Some.centre c.dump.result (sym c.as_done.ensures ∙ h)

pub returns-clause-input : goal.returns-clause-input
returns-clause-input g c = λ h. absurd (no_input c.in-Some.centre c.dump.result (sym c.as_done.ensures ∙ h))

pub returns-clause-disk : goal.returns-clause-disk
returns-clause-disk g c a = λ h.
    let it = disk_dumped c.in-Some.centre a c.dump.result (sym c.as_done.ensures ∙ h) in
    subst (λ (n : ℕ). RoseAtOne (g.D.Disks.disk c.args.disks.now n) (g.D.Disks.disk c.dump.new.disks n) (g.D.Disks.disk c.args.disks.now (n + 16)) (g.D.Disks.disk c.dump.new.disks (n + 16))) c.in-Some.ensures.some.0 (c.dump.ensures.disk it.1)

pub returns-clause-output : goal.returns-clause-output
returns-clause-output g c = λ h. c.dump.ensures.output (output_dumped c.in-Some.centre c.dump.result (sym c.as_done.ensures ∙ h))

pub dump-requires : goal.dump-requires
dump-requires g c = subst (λ (n : ℕ). is_centre c.in_ok-config.config.cluster n ≡ true) (sym c.in-Some.ensures.some.0) c.in-Some.ensures.some.1

-- ---- what stands at the disks

pub returns-in_err-config-clause-any_moment : goal.returns-in_err-config-clause-any_moment
returns-in_err-config-clause-any_moment g c = stays_unchanged g.D.Disks.disk g.D.Disks.may_leave g.D.Disks.moment g.D.Disks.left_since g.D.Disks.tears g.met.D.Disks.only_now c.args.disks.now c.args.number

pub returns-in_default-clause-any_moment : goal.returns-in_default-clause-any_moment
returns-in_default-clause-any_moment g c = stays_unchanged g.D.Disks.disk g.D.Disks.may_leave g.D.Disks.moment g.D.Disks.left_since g.D.Disks.tears g.met.D.Disks.only_now c.args.disks.now c.args.number

pub returns-clause-any_moment : goal.returns-clause-any_moment
returns-clause-any_moment g c =
    subst (λ (n : ℕ). StaysAsLog g.D.Disks.disk g.D.Disks.may_leave g.D.Disks.moment g.D.Disks.left_since g.D.Disks.tears c.args.disks.now c.dump.new.disks n) c.in-Some.ensures.some.0 c.dump.ensures.any_moment

pub returns-in_err-config-clause-others : goal.returns-in_err-config-clause-others
returns-in_err-config-clause-others g c = but_unchanged g.D.Disks.disk g.D.Disks.may_leave g.D.Disks.moment g.D.Disks.left_since c.args.disks.now c.args.number (c.args.number + 16)

pub returns-in_default-clause-others : goal.returns-in_default-clause-others
returns-in_default-clause-others g c = but_unchanged g.D.Disks.disk g.D.Disks.may_leave g.D.Disks.moment g.D.Disks.left_since c.args.disks.now c.args.number (c.args.number + 16)

pub returns-clause-others : goal.returns-clause-others
returns-clause-others g c =
    subst (λ (n : ℕ). KeepsBut g.D.Disks.disk g.D.Disks.may_leave g.D.Disks.moment g.D.Disks.left_since c.args.disks.now c.dump.new.disks n (n + 16)) c.in-Some.ensures.some.0 c.dump.ensures.others

-- ---- the calls at its disks

pub returns-in_err-config-clause-opens : goal.returns-in_err-config-clause-opens
returns-in_err-config-clause-opens g c =
    let p = err_from_is_err_and c.from_residual.result c.from_residual.ensures.1 in
    opens_none g.D.Disks.disk g.D.Disks.may_leave g.D.Disks.moment g.D.Disks.left_since g.D.Disks.tears g.met.D.Disks.only_now c.args.disks.now c.args.number c.from_residual.result p.0 p.1

pub returns-in_default-clause-opens : goal.returns-in_default-clause-opens
returns-in_default-clause-opens g c =
    let none : Result (Unit {0}) Failure = Err Failure.Centre in
    opens_none g.D.Disks.disk g.D.Disks.may_leave g.D.Disks.moment g.D.Disks.left_since g.D.Disks.tears g.met.D.Disks.only_now c.args.disks.now c.args.number none Failure.Centre refl

pub returns-clause-opens : goal.returns-clause-opens
returns-clause-opens g c =
    subst (λ (n : ℕ). OnlyOpens g.D.Disks.disk g.D.Disks.may_leave g.D.Disks.moment g.D.Disks.left_since g.D.Disks.tears c.args.disks.now c.dump.new.disks n c.as_done.result) c.in-Some.ensures.some.0
    (opens_done g.D.Disks.disk g.D.Disks.may_leave g.D.Disks.moment g.D.Disks.left_since g.D.Disks.tears c.args.disks.now c.dump.new.disks c.in-Some.centre c.dump.result c.as_done.result c.as_done.ensures c.dump.ensures.opens)
