use Rattle.std.proofs.Common.{◌∙◌, ◌≤◌, arith}
use Rattle.mdcc_world_logs.proofs.Calls.{due-there}
use Rattle.mdcc_world_logs.proofs.Standing.{log-is, same-disk}
use Rattle.mdcc_world_logs.proofs.logs.Logs.is_due_next.Goals as goal

pub returns : goal.returns
returns c centres up facts stand running =
    let a = c.args.centre in
    let some : 1 ≤ a = omega arith in
    due-there c.args.self.now c.args.self.now a centres up facts stand running some c.requires.within c.args.self.now.disks c.index.result.now
    (log-is c.args.self.now c.from.result a c.index.result.now (c.from.ensures ∙ c.number.ensures.value) some c.requires.within c.index.ensures)
    (same-disk c.args.self.now.disks) c.is_due_next.result c.is_due_next.ensures
