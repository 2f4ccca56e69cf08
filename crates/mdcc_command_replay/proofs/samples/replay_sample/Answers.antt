use Rattle.std.proofs.Common.{List, None, subst, ℕ, ◌∙◌}
use Rattle.mdcc_def_simulation.specs.Replay.{replay_of}
use Rattle.mdcc_command_replay.proofs.Counted.{ends_as}
use Rattle.mdcc_command_replay.specs.Samples.{EndsAs}
use Rattle.mdcc_command_replay.proofs.samples.replay_sample.Goals as goal

pub returns-in-Ok : goal.returns-in-Ok
returns-in-Ok g c =
    let ends : List ℕ → Type 0 = λ text. EndsAs (λ world w. g.W.Simulation.stands world w) (replay_of text) c.in-Ok.end in
    subst ends (c.as_slice.ensures.value ∙ c.in_ok-text.ensures.text)
    (ends_as (λ world w. g.W.Simulation.stands world w) None None (replay_of c.as_slice.result.now) c.in-Ok.end c.in-Ok.ensures.written c.in-Ok.ensures.last)
