use Rattle.mdcc_disks.specs.Disks.DiskCall.{Length}
use Rattle.mdcc_killed_process.proofs.Missed.{not_made}
use Rattle.mdcc_killed_process.proofs.disks.KilledDisksDisks.length.Goals as goal

pub returns-then-not-reaches-clause-call : goal.returns-then-not-reaches-clause-call
returns-then-not-reaches-clause-call g c =
    let missed = c.reaches.ensures.killed c.if-not-reaches.true in
    not_made g.D.Disks.disk g.D.Disks.may_leave g.D.Disks.moment g.D.Disks.left_since c.args.self.now c.reaches.new.self c.args.place Length (record {}) missed.0 missed.1
