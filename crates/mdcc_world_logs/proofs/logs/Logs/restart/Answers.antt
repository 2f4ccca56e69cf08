use Rattle.std.proofs.Common.{◌-◌, ◌≤◌, Ok, ap, arith, length, refl, set, subst, ℕ, ◌∙◌}
use Rattle.mdcc_world_logs.proofs.Refusals.{on-err, same-may-have}
use Rattle.mdcc_world_logs.proofs.Standing.{held-same}
use Rattle.mdcc_world_logs.proofs.Starts.{durable-first, durable-second, full-log, none-stays, none-stays-down, none-tail, read-same, reads, restarted, restarted-tail, room, start-may-have}
use Rattle.mdcc_world_logs.proofs.logs.Logs.restart.Goals as goal
use Rattle.mdcc_world_logs.specs.Represents.{with_fact_at}
use Rattle.mdcc_world_logs.specs.Starting.{OnNone, RunsWithTail, StartsOver}
use Rattle.mdcc_world_logs.specs.declared.starting.Attempt.{Attempt}
use Rattle.mdcc_def_rules.specs.Boot.{next_boot}
use Rattle.mdcc_def_messages.specs.Spelling.{encodings_of}
use Rattle.mdcc_def_messages.specs.declared.facts.Fact.{Fact as AFact}

pub returns-in-Runs-clause-started : goal.returns-in-Runs-clause-started
returns-in-Runs-clause-started c centres up facts stand encodings_of fits few =
    let a = c.args.centre in
    let d = c.reserve_start.new.disks in
    let some : 1 ≤ a = omega arith in
    let same = held-same c.args.self.now.disks d c.reserve_start.ensures in
    let its = stand.each a some (omega (c.requires.within, stand.as_many, arith)) in
    let roomy = room c.args.self.now d a (up a) (facts a) its same in
    let runs = subst (λ (s : Attempt). StartsOver (Ok s) c.args.cluster.now a (facts a) d c.start.new.disks) c.in-Runs.is
    (c.in_ok-started.ensures.starts (facts a) encodings_of fits (reads c.args.self.now d a (up a) (facts a) its same) roomy few) in
    restarted c.args.self.now _ a centres up facts stand some c.requires.within d same c.start.ensures.others d c.in-Runs.started c.args.cluster.now
    (ap (λ (n : ℕ). set c.args.self.now.open.items (n - 1) c.in-Runs.started.log) (c.from-index.ensures ∙ c.number.ensures.value)) roomy fits runs

pub returns-in-Full-clause-started : goal.returns-in-Full-clause-started
returns-in-Full-clause-started c centres up facts stand encodings_of fits few =
    let a = c.args.centre in
    let d = c.reserve_start.new.disks in
    let some : 1 ≤ a = omega arith in
    let same = held-same c.args.self.now.disks d c.reserve_start.ensures in
    let its = stand.each a some (omega (c.requires.within, stand.as_many, arith)) in
    let over = subst (λ (s : Attempt). StartsOver (Ok s) c.args.cluster.now a (facts a) d c.start.new.disks) c.in-Full.is
    (c.in_ok-started.ensures.starts (facts a) encodings_of fits (reads c.args.self.now d a (up a) (facts a) its same) (room c.args.self.now d a (up a) (facts a) its same) few) in
    (over.0, full-log (facts a) over.1)

pub returns-in-NoRoom-clause-started : goal.returns-in-NoRoom-clause-started
returns-in-NoRoom-clause-started c centres up facts stand encodings_of fits few =
    let a = c.args.centre in
    let d = c.reserve_start.new.disks in
    let some : 1 ≤ a = omega arith in
    let same = held-same c.args.self.now.disks d c.reserve_start.ensures in
    let its = stand.each a some (omega (c.requires.within, stand.as_many, arith)) in
    subst (λ (s : Attempt). StartsOver (Ok s) c.args.cluster.now a (facts a) d c.start.new.disks) c.in-NoRoom.is
    (c.in_ok-started.ensures.starts (facts a) encodings_of fits (reads c.args.self.now d a (up a) (facts a) its same) (room c.args.self.now d a (up a) (facts a) its same) few)

pub returns-in_err-reserve_start-clause-refused : goal.returns-in_err-reserve_start-clause-refused
returns-in_err-reserve_start-clause-refused c centres up facts stand of_cluster =
    let some : 1 ≤ c.args.centre = omega arith in
    on-err _ (same-may-have c.args.self.now _ c.args.centre centres up facts stand some c.requires.within (next_boot (facts c.args.centre)) refl
    (held-same c.args.self.now.disks c.reserve_start.new.disks c.reserve_start.ensures))

pub returns-in_err-started-clause-refused : goal.returns-in_err-started-clause-refused
returns-in_err-started-clause-refused c centres up facts stand of_cluster =
    let a = c.args.centre in
    let d = c.reserve_start.new.disks in
    let some : 1 ≤ a = omega arith in
    let same = held-same c.args.self.now.disks d c.reserve_start.ensures in
    let its = stand.each a some (omega (c.requires.within, stand.as_many, arith)) in
    on-err _ (start-may-have c.args.self.now _ a centres up facts stand some c.requires.within d same c.start.ensures.others
    (λ first second left left_other. c.start.ensures.any_moment (facts a) first second of_cluster (reads c.args.self.now d a (up a) (facts a) its same)
    (durable-first c.args.self.now d a (up a) (facts a) its same) (durable-second c.args.self.now d a (up a) (facts a) its same) left left_other)
    (λ b first other. refl))

pub returns-in-Full-clause-lack : goal.returns-in-Full-clause-lack
returns-in-Full-clause-lack c centres up facts stand down =
    let a = c.args.centre in
    let d = c.reserve_start.new.disks in
    let some : 1 ≤ a = omega arith in
    let same = held-same c.args.self.now.disks d c.reserve_start.ensures in
    let its = stand.each a some (omega (c.requires.within, stand.as_many, arith)) in
    let read = reads c.args.self.now d a (up a) (facts a) its same in
    none-stays c.args.self.now _ a centres up facts stand some c.requires.within d same c.start.ensures.others down refl
    (subst (λ (s : Attempt). OnNone (Ok s) (encodings_of (facts a)) a d c.start.new.disks) c.in-Full.is (c.in_ok-started.ensures.none (encodings_of (facts a)) read.told_first read.told_second read.read))

pub returns-in-NoRoom-clause-lack : goal.returns-in-NoRoom-clause-lack
returns-in-NoRoom-clause-lack c centres up facts stand down =
    let a = c.args.centre in
    let d = c.reserve_start.new.disks in
    let some : 1 ≤ a = omega arith in
    let same = held-same c.args.self.now.disks d c.reserve_start.ensures in
    let its = stand.each a some (omega (c.requires.within, stand.as_many, arith)) in
    let read = reads c.args.self.now d a (up a) (facts a) its same in
    none-stays c.args.self.now _ a centres up facts stand some c.requires.within d same c.start.ensures.others down refl
    (subst (λ (s : Attempt). OnNone (Ok s) (encodings_of (facts a)) a d c.start.new.disks) c.in-NoRoom.is (c.in_ok-started.ensures.none (encodings_of (facts a)) read.told_first read.told_second read.read))

pub returns-in-Full-clause-lack_down : goal.returns-in-Full-clause-lack_down
returns-in-Full-clause-lack_down c centres up facts stand =
    let a = c.args.centre in
    let d = c.reserve_start.new.disks in
    let some : 1 ≤ a = omega arith in
    let same = held-same c.args.self.now.disks d c.reserve_start.ensures in
    let its = stand.each a some (omega (c.requires.within, stand.as_many, arith)) in
    let read = reads c.args.self.now d a (up a) (facts a) its same in
    none-stays-down c.args.self.now _ a centres up facts stand some c.requires.within d same c.start.ensures.others refl
    (subst (λ (s : Attempt). OnNone (Ok s) (encodings_of (facts a)) a d c.start.new.disks) c.in-Full.is (c.in_ok-started.ensures.none (encodings_of (facts a)) read.told_first read.told_second read.read))

pub returns-in-NoRoom-clause-lack_down : goal.returns-in-NoRoom-clause-lack_down
returns-in-NoRoom-clause-lack_down c centres up facts stand =
    let a = c.args.centre in
    let d = c.reserve_start.new.disks in
    let some : 1 ≤ a = omega arith in
    let same = held-same c.args.self.now.disks d c.reserve_start.ensures in
    let its = stand.each a some (omega (c.requires.within, stand.as_many, arith)) in
    let read = reads c.args.self.now d a (up a) (facts a) its same in
    none-stays-down c.args.self.now _ a centres up facts stand some c.requires.within d same c.start.ensures.others refl
    (subst (λ (s : Attempt). OnNone (Ok s) (encodings_of (facts a)) a d c.start.new.disks) c.in-NoRoom.is (c.in_ok-started.ensures.none (encodings_of (facts a)) read.told_first read.told_second read.read))

pub returns-in-Runs-clause-tail : goal.returns-in-Runs-clause-tail
returns-in-Runs-clause-tail c centres up facts stand logged fits few =
    let a = c.args.centre in
    let d = c.reserve_start.new.disks in
    let some : 1 ≤ a = omega arith in
    let same = held-same c.args.self.now.disks d c.reserve_start.ensures in
    let its = stand.each a some (omega (c.requires.within, stand.as_many, arith)) in
    let read = reads c.args.self.now d a (up a) (facts a) its same in
    let started = returns-in-Runs-clause-started c centres up facts stand logged fits few in
    restarted-tail c.args.self.now _ a centres up facts stand some c.requires.within d same c.start.ensures.others (with_fact_at facts a (AFact.Booted c.in-Runs.started.epoch)) c.in-Runs.started.log its.log its.read
    (ap (λ (n : ℕ). set c.args.self.now.open.items (n - 1) c.in-Runs.started.log) (c.from-index.ensures ∙ c.number.ensures.value)) started.stand
    (subst (λ (s : Attempt). RunsWithTail (Ok s) (length its.log.tail)) c.in-Runs.is
    (c.in_ok-started.ensures.tail its.log read.told_first read.told_second (read-same c.args.self.now d a (up a) (facts a) its same)))

pub returns-in-Full-clause-tail : goal.returns-in-Full-clause-tail
returns-in-Full-clause-tail c centres up facts stand logged fits few =
    let a = c.args.centre in
    let d = c.reserve_start.new.disks in
    let some : 1 ≤ a = omega arith in
    let same = held-same c.args.self.now.disks d c.reserve_start.ensures in
    let its = stand.each a some (omega (c.requires.within, stand.as_many, arith)) in
    let read = reads c.args.self.now d a (up a) (facts a) its same in
    none-tail c.args.self.now _ a centres up facts stand some c.requires.within d same c.start.ensures.others
    (subst (λ (s : Attempt). OnNone (Ok s) (encodings_of (facts a)) a d c.start.new.disks) c.in-Full.is (c.in_ok-started.ensures.none (encodings_of (facts a)) read.told_first read.told_second read.read))

pub returns-in-NoRoom-clause-tail : goal.returns-in-NoRoom-clause-tail
returns-in-NoRoom-clause-tail c centres up facts stand logged fits few =
    let a = c.args.centre in
    let d = c.reserve_start.new.disks in
    let some : 1 ≤ a = omega arith in
    let same = held-same c.args.self.now.disks d c.reserve_start.ensures in
    let its = stand.each a some (omega (c.requires.within, stand.as_many, arith)) in
    let read = reads c.args.self.now d a (up a) (facts a) its same in
    none-tail c.args.self.now _ a centres up facts stand some c.requires.within d same c.start.ensures.others
    (subst (λ (s : Attempt). OnNone (Ok s) (encodings_of (facts a)) a d c.start.new.disks) c.in-NoRoom.is (c.in_ok-started.ensures.none (encodings_of (facts a)) read.told_first read.told_second read.read))
