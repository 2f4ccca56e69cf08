use Rattle.std.proofs.Common.{◌≡◌, ◌∙◌, refl, sym}
use Rattle.std.proofs.lemmas.Result.{err_from_is_err_and}
use Rattle.mdcc_log_file.specs.declared.fault.LogFault.{LogFault}
use Rattle.mdcc_command_dump.proofs.Dumped.{kept_opening, kept_printing, log_fault, may_fail, no_log_fault, no_output, printed_dump, printing_fails, refused_dump, unopened}
use Rattle.mdcc_node_log.proofs.Opens.{opens_broke, opens_whole}
use Rattle.mdcc_command_dump.specs.declared.fault.DumpFault.{DumpFault}
use Rattle.mdcc_node_log.specs.declared.fault.StartFault.{StartFault}
use Rattle.mdcc_command_dump.proofs.dumping.dump.Goals as goal

-- ---- the log gives no node

pub returns-in_err-payloads-clause-dumps : goal.returns-in_err-payloads-clause-dumps
returns-in_err-payloads-clause-dumps g c all told told_other read =
    let p = err_from_is_err_and c.from_residual.result c.from_residual.ensures.1 in
    rw (p.1, p.2) (refused_dump c.args.cluster.now all c.in_err-payloads.field-0.0 (g.O.Sink.held c.args.out.now) (c.in_err-payloads.ensures.refused all told told_other read))

pub returns-in_err-payloads-clause-unread : goal.returns-in_err-payloads-clause-unread
returns-in_err-payloads-clause-unread g c n told told_other read =
    let p = err_from_is_err_and c.from_residual.result c.from_residual.ensures.1 in
    rw (p.1, p.2)
    (unopened n c.args.centre g.D.Disks.disk c.args.disks.now c.open.new.disks c.in_err-payloads.field-0.0 (g.O.Sink.held c.args.out.now) (c.in_err-payloads.ensures.unread n told told_other read))

pub returns-in_err-payloads-clause-causes : goal.returns-in_err-payloads-clause-causes
returns-in_err-payloads-clause-causes g c =
    let p = err_from_is_err_and c.from_residual.result c.from_residual.ensures.1 in
    rw (p.1, p.2) (may_fail c.in_err-payloads.field-0.0 (g.O.Sink.held c.args.out.now) c.in_err-payloads.ensures.causes)

pub returns-in_err-payloads-clause-disk : goal.returns-in_err-payloads-clause-disk
returns-in_err-payloads-clause-disk g c = λ h.
    let p = err_from_is_err_and c.from_residual.result c.from_residual.ensures.1 in
    let is = sym p.1 ∙ h in
    let same : p.0 ≡ DumpFault.Log (StartFault.Log LogFault.DiskFault) = cc in
    let fault : c.in_err-payloads.field-0.0 ≡ StartFault.Log LogFault.DiskFault = log_fault c.in_err-payloads.field-0.0 (StartFault.Log LogFault.DiskFault) (sym p.2 ∙ same) in
    c.in_err-payloads.ensures.disk (rw fault refl)

pub returns-in_err-payloads-clause-output : goal.returns-in_err-payloads-clause-output
returns-in_err-payloads-clause-output g c = λ h.
    let p = err_from_is_err_and c.from_residual.result c.from_residual.ensures.1 in
    let is = sym p.1 ∙ h in
    let same : p.0 ≡ DumpFault.Output = cc in
    absurd (no_output c.in_err-payloads.field-0.0 (sym p.2 ∙ same))

pub returns-in_err-payloads-clause-keeps : goal.returns-in_err-payloads-clause-keeps
returns-in_err-payloads-clause-keeps g c all told told_other read =
    let p = err_from_is_err_and c.from_residual.result c.from_residual.ensures.1 in
    kept_opening c.open.result c.from_residual.result c.in_err-payloads.field-0.0 _ c.in_err-payloads.was (cc (p.1, p.2)) (c.open.ensures.keeps all told told_other read)

pub returns-in_err-payloads-clause-any_moment : goal.returns-in_err-payloads-clause-any_moment
returns-in_err-payloads-clause-any_moment g c all current other never told told_other only only_other read left left_other =
    c.open.ensures.any_moment all current other never told told_other only only_other read left left_other

-- ---- it is printed

pub returns-clause-dumps : goal.returns-clause-dumps
returns-clause-dumps g c all told told_other read =
    let found = c.in_ok-payloads.ensures.found all told told_other read in
    printed_dump c.args.cluster.now c.as_slice.result.now all c.print_payloads.result (g.O.Sink.held c.args.out.now) (g.O.Sink.held c.print_payloads.new.out) (c.as_slice.ensures.value ∙ found.0) found.1
    c.print_payloads.ensures.all c.print_payloads.ensures.front c.print_payloads.ensures.fault

pub returns-clause-unread : goal.returns-clause-unread
returns-clause-unread g c n told told_other read = absurd (c.in_ok-payloads.ensures.unread n told told_other read)

pub returns-clause-causes : goal.returns-clause-causes
returns-clause-causes g c = printing_fails c.print_payloads.result (g.O.Sink.held c.args.out.now) (g.O.Sink.held c.print_payloads.new.out) c.print_payloads.ensures.fault

pub returns-clause-disk : goal.returns-clause-disk
returns-clause-disk g c = λ h. absurd (no_log_fault c.print_payloads.result (StartFault.Log LogFault.DiskFault) c.print_payloads.ensures.fault h)

pub returns-clause-keeps : goal.returns-clause-keeps
returns-clause-keeps g c all told told_other read = kept_printing c.print_payloads.result _ (c.in_ok-payloads.ensures.keeps all told told_other read)

pub returns-clause-any_moment : goal.returns-clause-any_moment
returns-clause-any_moment g c all current other never told told_other only only_other read left left_other =
    c.open.ensures.any_moment all current other never told told_other only only_other read left left_other

pub returns-clause-output : goal.returns-clause-output
returns-clause-output g c = c.print_payloads.ensures.output

-- ---- all other places

pub returns-in_err-payloads-clause-others : goal.returns-in_err-payloads-clause-others
returns-in_err-payloads-clause-others g c = c.open.ensures.others

pub returns-clause-others : goal.returns-clause-others
returns-clause-others g c = c.open.ensures.others

-- ---- the calls at its places

pub returns-in_err-payloads-clause-opens : goal.returns-in_err-payloads-clause-opens
returns-in_err-payloads-clause-opens g c =
    let p = err_from_is_err_and c.from_residual.result c.from_residual.ensures.1 in
    opens_broke g.D.Disks.disk g.D.Disks.may_leave g.D.Disks.moment g.D.Disks.left_since g.D.Disks.tears c.args.disks.now c.open.new.disks c.open.result c.from_residual.result c.args.centre p.0 p.1 c.open.ensures.opens

pub returns-clause-opens : goal.returns-clause-opens
returns-clause-opens g c =
    opens_whole g.D.Disks.disk g.D.Disks.may_leave g.D.Disks.moment g.D.Disks.left_since g.D.Disks.tears c.args.disks.now c.open.new.disks c.open.result c.print_payloads.result c.args.centre _ c.in_ok-payloads.was c.open.ensures.opens
