use Rattle.std.proofs.Common.{◌∙◌}
use Rattle.mdcc_world_logs.proofs.Calls.{full-is}
use Rattle.mdcc_world_logs.proofs.Standing.{log-is, same-disk}
use Rattle.mdcc_world_logs.proofs.logs.Logs.is_full.Goals as goal

pub returns : goal.returns
returns c centres up facts stand running some few =
    let a = c.args.centre in
    full-is c.args.self.now c.args.self.now a centres up facts stand running some c.requires.within c.args.self.now.disks c.index.result.now
    (log-is c.args.self.now c.from.result a c.index.result.now (c.from.ensures ∙ c.number.ensures.value) some c.requires.within c.index.ensures)
    (same-disk c.args.self.now.disks) c.args.fact.now c.fact_length.result c.is_full.result c.fact_length.ensures.value c.is_full.ensures
