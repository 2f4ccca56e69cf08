use Rattle.std.proofs.Common.{◌≡◌, ◌∷◌}
use Rattle.std.proofs.lemmas.Result.{err_from_is_err_and}
use Rattle.mdcc_node_log.proofs.AllFacts.{booted_facts}
use Rattle.mdcc_node_log.proofs.Unbooted.{boot_may, boot_refused_by, boots_by, empty_store}
use Rattle.mdcc_node_log.proofs.opening.boot.Goals as goal

pub returns-in_err-boot-clause-refused : goal.returns-in_err-boot-clause-refused
returns-in_err-boot-clause-refused c =
    let cluster = c.args.cluster.now in
    let same : c.copy.result ≡ cluster = c.copy.ensures in
    let holds = empty_store c.in_ok-store.store cluster c.in_ok-store.ensures.empty c.in_ok-store.ensures.cells in
    let p = err_from_is_err_and c.from_residual-in_err-boot.result c.from_residual-in_err-boot.ensures.1 in
    rw (p.1, p.2) (boot_refused_by c.copy.result cluster c.args.payloads.now c.in_err-boot.field-0.0 same (c.in_err-boot.ensures.boots cluster.cells holds))

pub returns-in_err-boot-clause-causes : goal.returns-in_err-boot-clause-causes
returns-in_err-boot-clause-causes c =
    let p = err_from_is_err_and c.from_residual-in_err-boot.result c.from_residual-in_err-boot.ensures.1 in
    rw (p.1, p.2) (boot_may c.in_err-boot.field-0.0)

pub returns-clause-boots : goal.returns-clause-boots
returns-clause-boots c =
    let cluster = c.args.cluster.now in
    let same : c.copy.result ≡ cluster = c.copy.ensures in
    let holds = empty_store c.in_ok-store.store cluster c.in_ok-store.ensures.empty c.in_ok-store.ensures.cells in
    let boots = c.in_ok-boot.ensures.boots cluster.cells holds in
    (c.in_ok-boot.field-0.1 ∷ boots.0, boots_by c.copy.result cluster c.args.payloads.now (c.in_ok-boot.field-0.1 ∷ boots.0) same boots.1)

pub returns-clause-facts : goal.returns-clause-facts
returns-clause-facts c =
    let cluster = c.args.cluster.now in
    let same : c.copy.result ≡ cluster = c.copy.ensures in
    let holds = empty_store c.in_ok-store.store cluster c.in_ok-store.ensures.empty c.in_ok-store.ensures.cells in
    let boots = c.in_ok-boot.ensures.boots cluster.cells holds in
    booted_facts cluster c.args.payloads.now (c.in_ok-boot.field-0.1 ∷ boots.0) (boots_by c.copy.result cluster c.args.payloads.now (c.in_ok-boot.field-0.1 ∷ boots.0) same boots.1)
