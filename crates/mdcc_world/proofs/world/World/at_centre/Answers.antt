use Rattle.std.proofs.Common.{◌≡◌, sym, true}
use Rattle.mdcc_def_simulation.specs.State.{is_up_at}
use Rattle.mdcc_world.proofs.world.World.at_centre.Goals as goal

pub returns-clause-centre : goal.returns-clause-centre
returns-clause-centre c w like =
    let up : is_up_at w c.args.centre ≡ true = sym (c.if-not-is_up.ensures.up w like) in
    rw up (c.at_limit.ensures.limit w like)
