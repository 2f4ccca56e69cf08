use Rattle.mdcc_command_replay.proofs.Fronts.{tells_by}
use Rattle.mdcc_command_replay.proofs.writing.tell.Goals as goal

pub returns : goal.returns
returns g c = tells_by _ _ _ _ c.args.line.now c.write_all.result c.write_all.ensures.all c.write_all.ensures.front c.write_all.ensures.cause
