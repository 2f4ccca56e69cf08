use Rattle.mdcc_def_simulation.specs.Events.{after_event}
use Rattle.mdcc_replay_tests.proofs.Standing.{stands-behind}
use Rattle.mdcc_replay_tests.proofs.restarts.happen.Goals as goal

pub returns : goal.returns
returns c =
    stands-behind c.event.result (after_event c.requires.known.0 c.args.event.now) c.event.new.self c.new-lines.result c.event.new.lines
    (c.event.ensures.ok c.requires.known.0 c.requires.known.1)
