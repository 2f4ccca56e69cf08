use Rattle.mdcc_def_rules.specs.declared.node.Input.{Input}
use Rattle.mdcc_theorem_worlds.specs.DeliveryProgress.{message_counted}
use Rattle.mdcc_world.proofs.world.World.apply_message.Goals as goal

pub apply_run-requires : goal.apply_run-requires
apply_run-requires c =
    let w = c.requires.like.0 in
    let made = c.in_ok-centre.ensures.made w c.requires.like.1 in
    record { some = (message_counted w c.args.number, Input.Message made.envelope, made.itself) }

pub returns-clause-happens : goal.returns-clause-happens
returns-clause-happens c w like =
    let made = c.in_ok-centre.ensures.made w like in
    rw made.comes (c.apply_run.ensures.happens (message_counted w c.args.number) (Input.Message made.envelope) made.itself)
