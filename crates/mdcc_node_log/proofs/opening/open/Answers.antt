use Rattle.std.proofs.Common.{◌+◌, ◌∙◌, List, ℕ, subst}
use Rattle.std.proofs.lemmas.Result.{err_from_is_err_and}
use Rattle.mdcc_node_log.proofs.Opens.{opens_broke, opens_whole}
use Rattle.mdcc_node_log.proofs.Unbooted.{keeps_all, log_keeps, log_may, log_refused, read_as}
use Rattle.mdcc_node_log.specs.Opening.{AreFacts, HasBooted, IsUnbooted}
use Rattle.mdcc_node_log.proofs.Kept.{rest_read}
use Rattle.mdcc_node_log.proofs.Starts.{same-payloads}
use Rattle.mdcc_node_log.proofs.Unread.{no-log, open-unread}
use Rattle.mdcc_node_log.proofs.opening.open.Goals as goal

-- ---- the log was not opened

pub returns-in_err-_log-clause-refused : goal.returns-in_err-_log-clause-refused
returns-in_err-_log-clause-refused g c all told told_other read =
    let p = err_from_is_err_and c.from_residual.result c.from_residual.ensures.1 in
    rw (p.1, p.2)
    (log_refused c.args.cluster.now all c.in_err-_log.field-0.0 (g.D.Disks.disk c.args.disks.now c.args.centre).bytes (g.D.Disks.disk c.args.disks.now (c.args.centre + 16)).bytes read
    (λ n is. c.in_err-_log.ensures.not_a_log n is told told_other) c.in_err-_log.ensures.not_full)

pub returns-in_err-_log-clause-causes : goal.returns-in_err-_log-clause-causes
returns-in_err-_log-clause-causes g c =
    let p = err_from_is_err_and c.from_residual.result c.from_residual.ensures.1 in
    rw (p.1, p.2) (log_may c.in_err-_log.field-0.0 c.in_err-_log.ensures.not_full)

pub returns-in_err-_log-clause-unread : goal.returns-in_err-_log-clause-unread
returns-in_err-_log-clause-unread g c n told told_other read =
    let p = err_from_is_err_and c.from_residual.result c.from_residual.ensures.1 in
    rw (p.1, p.2)
    (open-unread n c.args.centre g.D.Disks.disk c.args.disks.now c.open.new.disks c.in_err-_log.field-0.0 read
    (λ m is. c.in_err-_log.ensures.not_a_log m is told told_other) c.in_err-_log.ensures.not_a_log_keeps c.in_err-_log.ensures.memory c.in_err-_log.ensures.not_full)

pub returns-in_err-_log-clause-keeps : goal.returns-in_err-_log-clause-keeps
returns-in_err-_log-clause-keeps g c all told told_other read =
    let p = err_from_is_err_and c.from_residual.result c.from_residual.ensures.1 in
    log_keeps c.from_residual.result all c.in_err-_log.field-0.0 (cc (p.1, p.2)) (g.D.Disks.disk c.args.disks.now c.args.centre).bytes (g.D.Disks.disk c.args.disks.now (c.args.centre + 16)).bytes
    (g.D.Disks.disk c.open.new.disks c.args.centre).bytes (g.D.Disks.disk c.open.new.disks (c.args.centre + 16)).bytes read
    (λ n is. c.in_err-_log.ensures.not_a_log n is told told_other) c.in_err-_log.ensures.not_full c.in_err-_log.ensures.memory

pub returns-in_err-_log-clause-any_moment : goal.returns-in_err-_log-clause-any_moment
returns-in_err-_log-clause-any_moment g c all current other never told told_other only only_other read left left_other =
    c.open.ensures.any_moment_same all current other never told told_other only only_other read left left_other

-- ---- it was opened, and gives no node

pub returns-in_err-boot-clause-refused : goal.returns-in_err-boot-clause-refused
returns-in_err-boot-clause-refused g c all told told_other read =
    let is = same-payloads (g.D.Disks.disk c.args.disks.now c.args.centre).bytes (g.D.Disks.disk c.args.disks.now (c.args.centre + 16)).bytes c.in_ok-_log.payloads.items all (c.in_ok-_log.ensures.payloads told told_other) read in
    let p = err_from_is_err_and c.from_residual-in_err-boot.result c.from_residual-in_err-boot.ensures.1 in
    rw (p.1, p.2) (subst (λ (found : List (List ℕ)). IsUnbooted c.args.cluster.now found c.in_err-boot.field-0.0) (c.as_slice.ensures.value ∙ is) c.in_err-boot.ensures.refused)

pub returns-in_err-boot-clause-causes : goal.returns-in_err-boot-clause-causes
returns-in_err-boot-clause-causes g c =
    let p = err_from_is_err_and c.from_residual-in_err-boot.result c.from_residual-in_err-boot.ensures.1 in
    rw (p.1, p.2) c.in_err-boot.ensures.causes

pub returns-in_err-boot-clause-unread : goal.returns-in_err-boot-clause-unread
returns-in_err-boot-clause-unread g c n told told_other read =
    absurd (no-log (g.D.Disks.disk c.args.disks.now c.args.centre).bytes (g.D.Disks.disk c.args.disks.now (c.args.centre + 16)).bytes c.in_ok-_log.payloads.items n (c.in_ok-_log.ensures.payloads told told_other) read)

pub returns-in_err-boot-clause-keeps : goal.returns-in_err-boot-clause-keeps
returns-in_err-boot-clause-keeps g c all told told_other read =
    let is = same-payloads (g.D.Disks.disk c.args.disks.now c.args.centre).bytes (g.D.Disks.disk c.args.disks.now (c.args.centre + 16)).bytes c.in_ok-_log.payloads.items all (c.in_ok-_log.ensures.payloads told told_other) read in
    let rest = rest_read g.D.Disks.disk g.D.Disks.may_leave c.open.new.disks c.in_ok-_log.payloads.items c.in_ok-_log._log c.args.centre c.in_ok-_log.ensures.keeps.0 (c.in_ok-_log.ensures.at_rest told told_other) in
    keeps_all c.from_residual-in_err-boot.result _ (read_as (g.D.Disks.disk c.open.new.disks c.args.centre).bytes (g.D.Disks.disk c.open.new.disks (c.args.centre + 16)).bytes c.in_ok-_log.payloads.items all is rest)

pub returns-in_err-boot-clause-any_moment : goal.returns-in_err-boot-clause-any_moment
returns-in_err-boot-clause-any_moment g c all current other never told told_other only only_other read left left_other =
    c.open.ensures.any_moment_same all current other never told told_other only only_other read left left_other

-- ---- a node boots from it

pub returns-clause-found : goal.returns-clause-found
returns-clause-found g c all told told_other read =
    let is = same-payloads (g.D.Disks.disk c.args.disks.now c.args.centre).bytes (g.D.Disks.disk c.args.disks.now (c.args.centre + 16)).bytes c.in_ok-_log.payloads.items all (c.in_ok-_log.ensures.payloads told told_other) read in
    (is, subst (λ (found : List (List ℕ)). HasBooted c.args.cluster.now found) (c.as_slice.ensures.value ∙ is) c.in_ok-boot.ensures.boots)

pub returns-clause-facts : goal.returns-clause-facts
returns-clause-facts g c = subst (λ (found : List (List ℕ)). AreFacts found) c.as_slice.ensures.value c.in_ok-boot.ensures.facts

pub returns-clause-unread : goal.returns-clause-unread
returns-clause-unread g c n told told_other read =
    absurd (no-log (g.D.Disks.disk c.args.disks.now c.args.centre).bytes (g.D.Disks.disk c.args.disks.now (c.args.centre + 16)).bytes c.in_ok-_log.payloads.items n (c.in_ok-_log.ensures.payloads told told_other) read)

pub returns-clause-keeps : goal.returns-clause-keeps
returns-clause-keeps g c all told told_other read =
    let is = same-payloads (g.D.Disks.disk c.args.disks.now c.args.centre).bytes (g.D.Disks.disk c.args.disks.now (c.args.centre + 16)).bytes c.in_ok-_log.payloads.items all (c.in_ok-_log.ensures.payloads told told_other) read in
    let rest = rest_read g.D.Disks.disk g.D.Disks.may_leave c.open.new.disks c.in_ok-_log.payloads.items c.in_ok-_log._log c.args.centre c.in_ok-_log.ensures.keeps.0 (c.in_ok-_log.ensures.at_rest told told_other) in
    read_as (g.D.Disks.disk c.open.new.disks c.args.centre).bytes (g.D.Disks.disk c.open.new.disks (c.args.centre + 16)).bytes c.in_ok-_log.payloads.items all is rest

pub returns-clause-any_moment : goal.returns-clause-any_moment
returns-clause-any_moment g c all current other never told told_other only only_other read left left_other =
    c.open.ensures.any_moment_same all current other never told told_other only only_other read left left_other

-- ---- all other places

pub returns-in_err-_log-clause-others : goal.returns-in_err-_log-clause-others
returns-in_err-_log-clause-others g c = c.open.ensures.others

pub returns-in_err-boot-clause-others : goal.returns-in_err-boot-clause-others
returns-in_err-boot-clause-others g c = c.open.ensures.others

pub returns-clause-others : goal.returns-clause-others
returns-clause-others g c = c.open.ensures.others

-- ---- the calls at its places

pub returns-in_err-_log-clause-opens : goal.returns-in_err-_log-clause-opens
returns-in_err-_log-clause-opens g c =
    let p = err_from_is_err_and c.from_residual.result c.from_residual.ensures.1 in
    opens_broke g.D.Disks.disk g.D.Disks.may_leave g.D.Disks.moment g.D.Disks.left_since g.D.Disks.tears c.args.disks.now c.open.new.disks c.open.result c.from_residual.result c.args.centre p.0 p.1
    (λ told told_other. (c.open.ensures.first told told_other, c.open.ensures.second told told_other))

pub returns-in_err-boot-clause-opens : goal.returns-in_err-boot-clause-opens
returns-in_err-boot-clause-opens g c =
    let p = err_from_is_err_and c.from_residual-in_err-boot.result c.from_residual-in_err-boot.ensures.1 in
    opens_broke g.D.Disks.disk g.D.Disks.may_leave g.D.Disks.moment g.D.Disks.left_since g.D.Disks.tears c.args.disks.now c.open.new.disks c.open.result c.from_residual-in_err-boot.result c.args.centre p.0 p.1
    (λ told told_other. (c.open.ensures.first told told_other, c.open.ensures.second told told_other))

pub returns-clause-opens : goal.returns-clause-opens
returns-clause-opens g c =
    opens_whole g.D.Disks.disk g.D.Disks.may_leave g.D.Disks.moment g.D.Disks.left_since g.D.Disks.tears c.args.disks.now c.open.new.disks c.open.result _ c.args.centre _ c.in_ok-_log.was
    (λ told told_other. (c.open.ensures.first told told_other, c.open.ensures.second told told_other))
