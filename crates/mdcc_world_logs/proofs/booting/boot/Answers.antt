use Rattle.std.proofs.Common.{◌≡◌, ◌+◌, ◌-◌, ◌≤◌, [], Ok, arith, subst}
use Rattle.std.specs.Prelude.{nat_le}
use Rattle.std.proofs.lemmas.Bool.{and_parts, leb-true}
use Rattle.mdcc_log_file.specs.Area.{fresh}
use Rattle.mdcc_disks.specs.Memory.{disk_of, may_leave_of}
use Rattle.mdcc_world_logs.proofs.Begun.{next-begun, none-fresh, none-logged, none-read, none-room}
use Rattle.mdcc_world_logs.proofs.Standing.{held-same}
use Rattle.mdcc_world_logs.proofs.booting.boot.Goals as goal
use Rattle.mdcc_node_log.specs.Nodes.{are_stored, store_cells}
use Rattle.mdcc_world_logs.specs.Starting.{RunsWithTail, StartsOver}
use Rattle.mdcc_world_logs.specs.declared.starting.Attempt.{Attempt}
use Rattle.mdcc_node_log.specs.Starting.{Runs}
use Rattle.mdcc_def_simulation.specs.Checkpoints.{checkpoint_every}

-- the centre runs, with no facts but its boot
runs : (c : goal.In_ok-push-in-Runs) → Runs are_stored store_cells c.args.cluster.now.cells c.in-Runs.started c.args.cluster.now c.args.centre checkpoint_every [] disk_of may_leave_of c.reserve_first.new.disks c.start.new.disks
runs c =
    let a = c.args.centre in
    let cluster = c.args.cluster.now in
    let centres = cluster.quorums.centres in
    let some : 1 ≤ a = omega arith in
    let few : a ≤ centres = leb-true a centres (and_parts (nat_le 1 a) (nat_le a centres) c.requires.among).1 in
    let same = held-same c.args.logs.now.disks c.reserve_first.new.disks c.reserve_first.ensures in
    let read = none-read c.args.logs.now c.reserve_first.new.disks centres (a - 1) a c.requires.begun (omega (some, arith)) few same in
    let room = none-room c.args.logs.now c.reserve_first.new.disks centres (a - 1) a c.requires.begun (omega (some, arith)) few same in
    subst (λ (s : Attempt). StartsOver (Ok s) cluster a [] c.reserve_first.new.disks c.start.new.disks) c.in-Runs.is
    (c.in_ok-started.ensures.starts [] (none-logged cluster) tt read room (omega arith))

pub returns-in_ok-push-in-Runs-clause-node : goal.returns-in_ok-push-in-Runs-clause-node
returns-in_ok-push-in-Runs-clause-node c = record { itself = (runs c).node; cells = (runs c).total_is; fits = (tt, (runs c).fits) }

pub returns-in_ok-push-in-Runs-clause-begun : goal.returns-in_ok-push-in-Runs-clause-begun
returns-in_ok-push-in-Runs-clause-begun c =
    let a = c.args.centre in
    let cluster = c.args.cluster.now in
    let centres = cluster.quorums.centres in
    let some : 1 ≤ a = omega arith in
    let next : a ≡ a - 1 + 1 = omega (some, arith) in
    let few : a ≤ centres = leb-true a centres (and_parts (nat_le 1 a) (nat_le a centres) c.requires.among).1 in
    let same = held-same c.args.logs.now.disks c.reserve_first.new.disks c.reserve_first.ensures in
    let room = none-room c.args.logs.now c.reserve_first.new.disks centres (a - 1) a c.requires.begun (omega (some, arith)) few same in
    let read = none-read c.args.logs.now c.reserve_first.new.disks centres (a - 1) a c.requires.begun (omega (some, arith)) few same in
    let tail = subst (λ (s : Attempt). RunsWithTail (Ok s) 0) c.in-Runs.is (c.in_ok-started.ensures.tail fresh read.told_first read.told_second
    (none-fresh c.args.logs.now c.reserve_first.new.disks centres (a - 1) a c.requires.begun (omega (some, arith)) few same)) in
    next-begun c.args.logs.now _ c.reserve_first.new.disks centres (a - 1) a c.in-Runs.started.log c.requires.begun next few c.requires.most
    same c.start.ensures.others c.in_ok-push-in-Runs.ensures.items
    (record { centre = (runs c).place; every = (runs c).every_is; few = (runs c).few; roomy = (runs c).roomy room; at_rest = (runs c).at_rest }) tail
