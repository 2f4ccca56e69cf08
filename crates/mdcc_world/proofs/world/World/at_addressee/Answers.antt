use Rattle.std.proofs.Common.{◌∙◌, ap}
use Rattle.std.proofs.lemmas.Bool.{false≢true}
use Rattle.mdcc_world.proofs.world.World.at_addressee.Goals as goal
use Rattle.mdcc_theorem_worlds.specs.EventEffects.{at_centre}

pub returns-in-Some-clause-centre : goal.returns-in-Some-clause-centre
returns-in-Some-clause-centre c w like = c.at_centre.ensures.centre w like ∙ ap (at_centre w) c.in-Some.ensures.value

pub returns-in-None-clause-centre : goal.returns-in-None-clause-centre
returns-in-None-clause-centre c w like = absurd (false≢true (c.in-None.ensures.valid.1 (c.requires.some, c.requires.few)))
