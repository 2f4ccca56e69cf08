use Rattle.std.proofs.Common.{◌≡◌, ◌+◌, ℕ, Err, List, Result, arith, subst, sym}
use Rattle.std.proofs.lemmas.Result.{err_from_is_err_and}
use Rattle.mdcc_node_log.specs.declared.fault.StartFault.{StartFault}
use Rattle.mdcc_option.specs.declared.cluster.Cluster.{Cluster}
use Rattle.mdcc_serve.proofs.Copied.{among_copy, cluster_copy, holds_copy}
use Rattle.mdcc_serve.proofs.Opened.{but_others, but_passes, start_lacks}
use Rattle.mdcc_serve.proofs.Runs.{Ends, fails, runs, runs_boot, says}
use Rattle.mdcc_serve.specs.Refusals.{BootsAt, SaysAt}
use Rattle.mdcc_serve.specs.Starts.{FailsToStart, IsRunning, start_fault_of}
use Rattle.mdcc_serve_site.specs.declared.fault.ServeFault.{ServeFault}
use Rattle.mdcc_serve.proofs.starting.start_over_log.Goals as goal

err-of : {T : Type 0} {fault other : StartFault} → fault ≡ other → ◌≡◌ {A = Result T StartFault} (Err fault) (Err other)
err-of is = cc

pub start-requires-clause-among : goal.start-requires-clause-among
start-requires-clause-among g c = among_copy c.copy-cluster.result c.args.config.now.cluster c.args.centre c.copy-cluster.ensures (omega arith) c.requires.among

-- ---- there is no store

pub returns-in_err-store-clause-fails : goal.returns-in_err-store-clause-fails
returns-in_err-store-clause-fails g c =
    let p = err_from_is_err_and c.from_residual.result c.from_residual.ensures.1 in
    rw (p.1, p.2) (start_lacks g.D.Disks.disk g.D.Disks.may_leave g.D.Disks.tears c.args.config.now.checkpoint c.args.config.now.cluster c.args.centre c.args.disks.now)

-- ---- it runs

pub returns-in-Ok-clause-runs : goal.returns-in-Ok-clause-runs
returns-in-Ok-clause-runs g c =
    let cluster = c.copy-cluster.result in
    let holds = holds_copy c.in_ok-store.store cluster c.args.config.now.cluster c.copy-cluster.ensures c.in_ok-store.ensures.empty c.in_ok-store.ensures.cells in
    let log = c.in-Ok.ensures.log in
    subst (λ (of : Cluster). IsRunning g.D.Disks.disk g.D.Disks.may_leave c.args.config.now.checkpoint g.D.Disks.tears of c.args.centre c.in-Ok.running c.args.disks.now c.start.new.disks) c.copy-cluster.ensures
    (runs g.D.Disks.disk g.D.Disks.may_leave c.args.config.now.checkpoint cluster c.args.centre c.args.disks.now c.start.new.disks c.current_is_read.ensures c.facts_have_one_spelling.ensures c.facts_read_are_well_formed.ensures c.boots_within_cells.ensures c.boots_give_nodes.ensures.node
    (cluster_copy cluster c.args.config.now c.copy-cluster.ensures c.requires.config) (among_copy cluster c.args.config.now.cluster c.args.centre c.copy-cluster.ensures (omega arith) c.requires.among)
    (but_passes g.D.Disks.disk g.D.Disks.may_leave g.D.Disks.moment g.D.Disks.left_since c.args.disks.now c.start.new.disks c.args.centre (c.args.centre + 16) c.start.ensures.others)
    (but_others g.D.Disks.disk g.D.Disks.may_leave g.D.Disks.moment g.D.Disks.left_since c.args.disks.now c.start.new.disks c.args.centre c.start.ensures.others)
    c.requires.alike g.D.Disks.tears c.in-Ok.running (c.in-Ok.ensures.over_any cluster.cells holds) log.0 log.1.0 log.1.1)

pub returns-in-Ok-clause-node : goal.returns-in-Ok-clause-node
returns-in-Ok-clause-node g c =
    let cluster = c.copy-cluster.result in
    let holds = holds_copy c.in_ok-store.store cluster c.args.config.now.cluster c.copy-cluster.ensures c.in_ok-store.ensures.empty c.in_ok-store.ensures.cells in
    subst (λ (of : Cluster). BootsAt g.D.Disks.disk of c.args.disks.now c.args.centre) c.copy-cluster.ensures
    (runs_boot g.D.Disks.disk g.D.Disks.may_leave c.args.config.now.checkpoint cluster c.args.centre c.args.disks.now c.start.new.disks c.in-Ok.running (c.in-Ok.ensures.over_any cluster.cells holds))

-- ---- it does not

pub returns-in-Err-clause-fails : goal.returns-in-Err-clause-fails
returns-in-Err-clause-fails g c =
    let cluster = c.copy-cluster.result in
    let holds = holds_copy c.in_ok-store.store cluster c.args.config.now.cluster c.copy-cluster.ensures c.in_ok-store.ensures.empty c.in_ok-store.ensures.cells in
    let new = c.start.new.disks in
    let counts : (p : ℕ) (bytes : List ℕ) → g.D.Disks.may_leave new p bytes → g.D.Disks.left_since new p (g.D.Disks.moment c.args.disks.now) bytes = λ p bytes left. g.met.D.Disks.counts_now new p (g.D.Disks.moment c.args.disks.now) bytes c.start.ensures.others.later left in
    let ends : Ends g.D.Disks.disk g.D.Disks.may_leave c.args.config.now.checkpoint cluster c.args.centre c.args.disks.now new g.D.Disks.tears c.in-Err.fault = record {
      passes = but_passes g.D.Disks.disk g.D.Disks.may_leave g.D.Disks.moment g.D.Disks.left_since c.args.disks.now new c.args.centre (c.args.centre + 16) c.start.ensures.others;
      others = but_others g.D.Disks.disk g.D.Disks.may_leave g.D.Disks.moment g.D.Disks.left_since c.args.disks.now new c.args.centre c.start.ensures.others;
      refused = λ facts are log. c.in-Err.ensures.starts cluster.cells facts holds are log;
      over_any = c.in-Err.ensures.over_any cluster.cells holds;
      kept = c.in-Err.ensures.refused;
      unread = c.in-Err.ensures.unread;
      no_log = λ n is. c.in-Err.ensures.not_a_log n (err-of is);
      reads = λ all current other never told told_other only only_other read left left_other. c.in-Err.ensures.any_moment_refused all current other never told told_other only only_other read (counts c.args.centre current left) (counts (c.args.centre + 16) other left_other);
      reads_either = λ facts current other never are log only only_other left left_other.
          c.start.ensures.any_moment_same cluster.cells facts current other holds are log never only only_other (counts c.args.centre current left) (counts (c.args.centre + 16) other left_other);
      rose = λ is. c.in-Err.ensures.disk_fault (err-of is);
      no_log_memory = λ is. c.in-Err.ensures.log_memory (err-of is);
      no_boot_memory = λ is. c.in-Err.ensures.boot_memory (err-of is);
    } in
    subst (λ (fault : ServeFault). FailsToStart g.D.Disks.disk g.D.Disks.may_leave c.args.config.now.checkpoint g.D.Disks.tears c.args.config.now.cluster c.args.centre fault c.args.disks.now new) (sym c.start_fault.ensures)
    (subst (λ (of : Cluster). FailsToStart g.D.Disks.disk g.D.Disks.may_leave c.args.config.now.checkpoint g.D.Disks.tears of c.args.centre (start_fault_of c.args.centre c.in-Err.fault) c.args.disks.now new) c.copy-cluster.ensures
    (fails g.D.Disks.disk g.D.Disks.may_leave c.args.config.now.checkpoint cluster c.args.centre c.args.disks.now new c.current_is_read.ensures c.facts_have_one_spelling.ensures c.facts_read_are_well_formed.ensures c.boots_within_cells.ensures c.boots_give_nodes.ensures.node
    (cluster_copy cluster c.args.config.now c.copy-cluster.ensures c.requires.config) (among_copy cluster c.args.config.now.cluster c.args.centre c.copy-cluster.ensures (omega arith) c.requires.among)
    g.D.Disks.tears c.in-Err.fault ends))

pub returns-in-Err-clause-says : goal.returns-in-Err-clause-says
returns-in-Err-clause-says g c =
    let cluster = c.copy-cluster.result in
    let holds = holds_copy c.in_ok-store.store cluster c.args.config.now.cluster c.copy-cluster.ensures c.in_ok-store.ensures.empty c.in_ok-store.ensures.cells in
    subst (λ (fault : ServeFault). SaysAt g.D.Disks.disk c.args.config.now.cluster c.args.disks.now c.args.centre fault) (sym c.start_fault.ensures)
    (subst (λ (of : Cluster). SaysAt g.D.Disks.disk of c.args.disks.now c.args.centre (start_fault_of c.args.centre c.in-Err.fault)) c.copy-cluster.ensures
    (says g.D.Disks.disk g.D.Disks.may_leave c.args.config.now.checkpoint cluster c.args.centre c.args.disks.now c.start.new.disks c.in-Err.fault
    (c.in-Err.ensures.over_any cluster.cells holds) (λ n is. c.in-Err.ensures.not_a_log n (err-of is)) (λ is. c.in-Err.ensures.log_memory (err-of is)) (λ is. c.in-Err.ensures.boot_memory (err-of is))))
