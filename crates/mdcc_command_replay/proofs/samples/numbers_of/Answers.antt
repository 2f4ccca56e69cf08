use Rattle.mdcc_command_replay.proofs.Counted.{world_counted}
use Rattle.mdcc_command_replay.proofs.samples.numbers_of.Goals as goal

pub returns : goal.returns
returns g c = λ w s.
    world_counted w c.in-End.events c.in-End.messages c.in-End.commits c.in-End.aborts c.in-End.undecided c.reads.result c.begun_of.result
    (c.in-End.ensures w s) (c.reads.ensures w s) c.begun_of.ensures
