use Rattle.mdcc_theorem_node_steps.proofs.Answered.{answer-formed}
use Rattle.mdcc_theorem_node_steps.proofs.Dispatched.{fact-formed, node-stays, sends-formed}
use Rattle.mdcc_theorem_node_steps.proofs.Roomy.{room-stays}
use Rattle.mdcc_theorem_node_steps.proofs.Shortness.{brought-fits, fact-short, sends-short}
use Rattle.mdcc_theorem_node_steps.proofs.steps_are_well_formed.Goals as goal

pub returns-clause-fact : goal.returns-clause-fact
returns-clause-fact c cluster me facts volatile input step fact node well_formed made is = fact-formed cluster me facts volatile input step node well_formed made fact is

pub returns-clause-short : goal.returns-clause-short
returns-clause-short c = fact-short

pub returns-clause-sends : goal.returns-clause-sends
returns-clause-sends c cluster me facts volatile input step room node well_formed made = sends-formed cluster me facts volatile input step node well_formed made room

pub returns-clause-answer : goal.returns-clause-answer
returns-clause-answer c = answer-formed

pub returns-clause-stays : goal.returns-clause-stays
returns-clause-stays c = node-stays

pub returns-clause-room : goal.returns-clause-room
returns-clause-room c = room-stays

pub returns-clause-roomy : goal.returns-clause-roomy
returns-clause-roomy c = sends-short

pub returns-clause-brought : goal.returns-clause-brought
returns-clause-brought c cluster me facts volatile s message step fact few node from w made is =
    brought-fits cluster me facts volatile s message step fact few node from w made is
