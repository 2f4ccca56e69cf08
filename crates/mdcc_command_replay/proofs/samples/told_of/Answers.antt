use Rattle.mdcc_sample.specs.Texts.{sample_text}
use Rattle.mdcc_def_simulation.specs.Replay.{replay_of}
use Rattle.mdcc_command_replay.specs.Samples.{sample_of}
use Rattle.mdcc_command_replay.proofs.samples.told_of.Goals as goal

pub returns : goal.returns
unfolding sample_of
returns g c = c.told_by.ensures (replay_of (sample_text c.args.seed c.args.items c.args.orders)) c.in_ok-end.ensures
