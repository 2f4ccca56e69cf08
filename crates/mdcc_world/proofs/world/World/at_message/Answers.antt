use Rattle.std.proofs.Common.{◌∙◌}
use Rattle.mdcc_world.proofs.Delivered.{addressee-at, addressee-within}
use Rattle.mdcc_world.proofs.world.World.at_message.Goals as goal

pub at_addressee-requires : goal.at_addressee-requires
at_addressee-requires c =
    let w = c.requires.0 in
    let like = c.requires.1 in
    let within = addressee-within w c.args.number c.in-Some.centre c.args.self.now.network like.records.itself like.records.network c.in-Some.ensures in
    record { some = within.0; few = within.1 }

pub returns-in-Some-clause-message : goal.returns-in-Some-clause-message
returns-in-Some-clause-message c w like =
    c.at_addressee.ensures.centre w like ∙ addressee-at w c.args.number c.in-Some.centre c.args.self.now.network like.records.network c.in-Some.ensures
