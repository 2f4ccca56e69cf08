use Rattle.std.proofs.Common.{◌≡◌, ◌∙◌, ◌+◌, Err, List, OnOk, Result, ap, fold, refl, subst, sym, ℕ}
use Rattle.std.proofs.lemmas.Result.{IfErr-at_err, IfErr-weaker}
use Rattle.mdcc_audit.specs.Auditing.{fact_taken}
use Rattle.mdcc_audit.specs.Logs.{placed_log}
use Rattle.mdcc_audit.specs.Represents.{state_of}
use Rattle.mdcc_command_audit.proofs.Refusals.{booting_says, disk_started, facts_found, keeps_started, opening_says}
use Rattle.mdcc_command_audit.proofs.Stages.{on_any, unless_so}
use Rattle.mdcc_command_audit.specs.Audits.{SaysAt}
use Rattle.mdcc_node_log.proofs.Opens.{opens_broke, opens_whole}
use Rattle.mdcc_command_endings.specs.declared.fault.Failure.{Failure}
use Rattle.mdcc_log_file.specs.Both.{RoseAtOne}
use Rattle.mdcc_log_file.specs.declared.fault.LogFault.{LogFault}
use Rattle.mdcc_def_messages.specs.declared.facts.Fact.{Fact}
use Rattle.mdcc_command_audit.proofs.logs.take_next.Goals as goal

-- ---- the log was opened

pub returns-in-Ok-clause-state : goal.returns-in-Ok-clause-state
returns-in-Ok-clause-state g c = λ told.
    let is = facts_found g.D.Disks.disk c.args.cluster.now c.args.disks.now c.open.new.disks c.args.centre c.in-Ok.payloads.items c.in-Ok.ensures.found c.in-Ok.ensures.unread told in
    let taken_all = rw c.as_slice.ensures.value at c.take_log.ensures.state in
    subst (λ (facts : List Fact). OnOk c.take_log.result (state_of c.take_log.new.audit ≡ fold (fact_taken c.args.audit.now.quorums) (state_of c.args.audit.now) (placed_log c.args.centre 1 facts))) (sym is) taken_all

pub returns-in-Ok-clause-node : goal.returns-in-Ok-clause-node
returns-in-Ok-clause-node g c =
    on_any c.take_log.result (booting_says g.D.Disks.disk c.args.cluster.now c.args.disks.now c.open.new.disks c.args.centre c.in-Ok.payloads.items c.in-Ok.ensures.found c.in-Ok.ensures.unread)

pub returns-in-Ok-clause-says : goal.returns-in-Ok-clause-says
returns-in-Ok-clause-says g c =
    IfErr-weaker c.take_log.result _ _ (λ failure is. subst (λ (f : Failure). SaysAt g.D.Disks.disk c.args.cluster.now c.args.disks.now c.args.centre f) (sym is) tt) c.take_log.ensures.fault

pub returns-in-Ok-clause-disk : goal.returns-in-Ok-clause-disk
returns-in-Ok-clause-disk g c a = λ h.
    let is = IfErr-at_err (λ (f : Failure). f ≡ Failure.Memory) h c.take_log.ensures.fault in
    absurd (cc (is))

pub returns-in-Ok-clause-keeps : goal.returns-in-Ok-clause-keeps
returns-in-Ok-clause-keeps g c all told read = unless_so c.take_log.result _ (c.in-Ok.ensures.keeps all told.first told.second read)

pub returns-in-Ok-clause-opens : goal.returns-in-Ok-clause-opens
returns-in-Ok-clause-opens g c =
    opens_whole g.D.Disks.disk g.D.Disks.may_leave g.D.Disks.moment g.D.Disks.left_since g.D.Disks.tears c.args.disks.now c.open.new.disks c.open.result c.take_log.result c.args.centre c.in-Ok.payloads c.in-Ok.is c.open.ensures.opens

-- ---- it was not

pub returns-in-Err-clause-says : goal.returns-in-Err-clause-says
returns-in-Err-clause-says g c =
    subst (λ (f : Failure). SaysAt g.D.Disks.disk c.args.cluster.now c.args.disks.now c.args.centre f) (sym c.start_failure.ensures)
    (opening_says g.D.Disks.disk c.args.cluster.now c.args.disks.now c.open.new.disks c.args.centre c.in-Err.fault c.in-Err.ensures.causes c.in-Err.ensures.refused c.in-Err.ensures.unread)

pub returns-in-Err-clause-disk : goal.returns-in-Err-clause-disk
returns-in-Err-clause-disk g c a = λ h.
    let same : c.start_failure.result ≡ Failure.Log a LogFault.DiskFault = cc (h) in
    let it = disk_started c.args.centre a c.in-Err.fault (sym c.start_failure.ensures ∙ same) in
    subst (λ (n : ℕ). RoseAtOne (g.D.Disks.disk c.args.disks.now n) (g.D.Disks.disk c.open.new.disks n) (g.D.Disks.disk c.args.disks.now (n + 16)) (g.D.Disks.disk c.open.new.disks (n + 16))) it.0
    (c.in-Err.ensures.disk (rw it.1 refl))

pub returns-in-Err-clause-keeps : goal.returns-in-Err-clause-keeps
returns-in-Err-clause-keeps g c all told read =
    let failed : Result (Unit {0}) Failure = Err c.start_failure.result in
    keeps_started c.open.result failed c.args.centre c.in-Err.fault _ c.in-Err.is (ap (λ (f : Failure). let err : Result (Unit {0}) Failure = Err f in err) c.start_failure.ensures) (c.open.ensures.keeps all told.first told.second read)

pub returns-in-Err-clause-opens : goal.returns-in-Err-clause-opens
returns-in-Err-clause-opens g c =
    opens_broke g.D.Disks.disk g.D.Disks.may_leave g.D.Disks.moment g.D.Disks.left_since g.D.Disks.tears c.args.disks.now c.open.new.disks c.open.result _ c.args.centre c.start_failure.result refl c.open.ensures.opens
