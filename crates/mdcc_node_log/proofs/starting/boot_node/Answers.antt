use Rattle.std.proofs.lemmas.Result.{err_from_is_err_and}
use Rattle.mdcc_node_log.proofs.Ended.{boots-from}
use Rattle.mdcc_node_log.proofs.Starts.{boot-ends, node-boots}
use Rattle.mdcc_node_log.proofs.starting.boot_node.Goals as goal

pub returns-in_err-boot-clause-node : goal.returns-in_err-boot-clause-node
returns-in_err-boot-clause-node g c total facts holds are is =
    let p = err_from_is_err_and c.from_residual.result c.from_residual.ensures.1 in
    rw (p.1, p.2)
    (boot-ends g.S.FactStore.stands g.S.FactStore.cells total c.args.cluster c.args.centre facts c.args.payloads.now is are c.in_err-boot.field-0.0
    (c.in_err-boot.ensures.boots total holds))

pub returns-clause-node : goal.returns-clause-node
returns-clause-node g c total facts holds are is =
    node-boots g.S.FactStore.stands g.S.FactStore.cells total c.args.cluster c.args.centre facts c.args.payloads.now is are c.in_ok-boot.field-0
    (c.in_ok-boot.ensures.boots total holds)

-- ---- of any payloads

pub returns-in_err-boot-clause-boots : goal.returns-in_err-boot-clause-boots
returns-in_err-boot-clause-boots g c total holds =
    let p = err_from_is_err_and c.from_residual.result c.from_residual.ensures.1 in
    rw (p.1, p.2)
    (boots-from g.S.FactStore.stands g.S.FactStore.cells total c.args.cluster c.args.centre c.args.payloads.now c.in_err-boot.field-0.0
    (c.in_err-boot.ensures.boots total holds))
