use Rattle.mdcc_world_logs.proofs.logs.Logs.stop_append.Goals as goal

pub returns-clause-struck : goal.returns-clause-struck
returns-clause-struck c centres up facts stand running early = c.stop_frame.ensures.struck centres up facts stand running

pub returns-clause-struck_other : goal.returns-clause-struck_other
returns-clause-struck_other c centres up facts stand running early = c.stop_frame.ensures.struck_other centres up facts stand running
