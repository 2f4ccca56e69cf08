use Rattle.std.proofs.Common.{◌≡◌, ◌<◌, ◌+◌, ◌^◌, ◌∙◌, List, ℕ, ap, arith, inl, length, sym, subst}
use Rattle.mdcc_log_file.specs.Area.{payloads}
use Rattle.mdcc_disks.specs.Memory.{disk_of, may_leave_of, only_now_of}
use Rattle.mdcc_world_logs.proofs.Starts.{lacking-kept, lacking-over, lacking-tail, no-gate-is-torn-open}
use Rattle.mdcc_world_logs.proofs.Tails.{tail-alike}
use Rattle.mdcc_world_logs.proofs.starting.start.Goals as goal
use Rattle.mdcc_node_log.proofs.Unbooted.{empty_store}
use Rattle.mdcc_node_log.specs.Nodes.{are_stored, store_cells}
use Rattle.mdcc_option.specs.declared.cluster.Cluster.{Cluster}
use Rattle.mdcc_node_log.specs.Logged.{AreLogged}
use Rattle.mdcc_node_log.specs.Starting.{HasLogRoom, IsRefused, Runs}
use Rattle.mdcc_def_simulation.specs.Checkpoints.{checkpoint_every}

pub returns-in-Ok-clause-starts : goal.returns-in-Ok-clause-starts
returns-in-Ok-clause-starts c facts logged fits is room early =
    let cluster = c.args.cluster.now in
    let same : c.copy.result ≡ cluster = c.copy.ensures in
    let was = subst (λ (of : Cluster). AreLogged of facts) (sym same) logged in
    subst (λ (of : Cluster). Runs are_stored store_cells cluster.cells c.in-Ok.centre of c.args.centre checkpoint_every facts disk_of may_leave_of c.args.disks.now c.start.new.disks) same
    (c.in-Ok.ensures.starts cluster.cells facts (empty_store c.in_ok-store.store cluster c.in_ok-store.ensures.empty c.in_ok-store.ensures.cells) was is)

pub returns-in-Err-clause-starts : goal.returns-in-Err-clause-starts
returns-in-Err-clause-starts c facts logged fits is room early =
    let cluster = c.args.cluster.now in
    let same : c.copy.result ≡ cluster = c.copy.ensures in
    let was = subst (λ (of : Cluster). AreLogged of facts) (sym same) logged in
    let few : cluster.cells < 2 ^ 63 = omega arith in
    let roomy = HasLogRoom checkpoint_every (disk_of c.args.disks.now c.args.centre) (disk_of c.args.disks.now (c.args.centre + 16)) in
    rw c.lacking.ensures
    (lacking-over cluster facts logged few fits early c.args.centre c.args.disks.now c.start.new.disks roomy c.in-Err.fault room
    (subst (λ (of : Cluster). IsRefused cluster.cells of facts roomy c.in-Err.fault) same
    (c.in-Err.ensures.starts cluster.cells facts (empty_store c.in_ok-store.store cluster c.in_ok-store.ensures.empty c.in_ok-store.ensures.cells) was is)))

pub returns-in-Ok-clause-tail : goal.returns-in-Ok-clause-tail
returns-in-Ok-clause-tail c area_log told told_other read = c.in-Ok.ensures.tail area_log told told_other read ∙ tail-alike (length area_log.tail)

pub returns-in-Err-clause-tail : goal.returns-in-Err-clause-tail
returns-in-Err-clause-tail c area_log told told_other read = rw c.lacking.ensures (lacking-tail c.in-Err.fault (length area_log.tail))

pub returns-in-Err-clause-none : goal.returns-in-Err-clause-none
returns-in-Err-clause-none c all told told_other read =
    rw c.lacking.ensures (lacking-kept all c.args.centre c.args.disks.now c.start.new.disks c.in-Err.fault (c.in-Err.ensures.refused all told told_other read))

-- no store was made, and so no call at the disks
pub returns-in_err-store-clause-any_moment : goal.returns-in_err-store-clause-any_moment
returns-in_err-store-clause-any_moment c facts first second logged is only only_other left left_other =
    let here = only first (only_now_of c.args.disks.now c.args.centre first left) in
    let there = only_other second (only_now_of c.args.disks.now (c.args.centre + 16) second left_other) in
    inl (ap (λ (bytes : List ℕ). payloads bytes second) here ∙ ap (λ (bytes : List ℕ). payloads (disk_of c.args.disks.now c.args.centre).bytes bytes) there ∙ is.read)

pub returns-in-Ok-clause-any_moment : goal.returns-in-Ok-clause-any_moment
returns-in-Ok-clause-any_moment c facts first second logged is only only_other left left_other =
    let cluster = c.args.cluster.now in
    let same : c.copy.result ≡ cluster = c.copy.ensures in
    let was = subst (λ (of : Cluster). AreLogged of facts) (sym same) logged in
    c.start.ensures.any_moment_same cluster.cells facts first second (empty_store c.in_ok-store.store cluster c.in_ok-store.ensures.empty c.in_ok-store.ensures.cells) was is no-gate-is-torn-open only only_other left left_other

pub returns-in-Err-clause-any_moment : goal.returns-in-Err-clause-any_moment
returns-in-Err-clause-any_moment c facts first second logged is only only_other left left_other =
    let cluster = c.args.cluster.now in
    let same : c.copy.result ≡ cluster = c.copy.ensures in
    let was = subst (λ (of : Cluster). AreLogged of facts) (sym same) logged in
    c.start.ensures.any_moment_same cluster.cells facts first second (empty_store c.in_ok-store.store cluster c.in_ok-store.ensures.empty c.in_ok-store.ensures.cells) was is no-gate-is-torn-open only only_other left left_other
