use Rattle.std.proofs.lemmas.Bool.{and_from}
use Rattle.mdcc_theorem_node_steps.proofs.Stepping.{booted-more, made-allowed, some_epoch}
use Rattle.mdcc_theorem_node_steps.proofs.added_facts_are_allowed.Goals as goal

pub returns-clause-allowed : goal.returns-clause-allowed
returns-clause-allowed c = made-allowed

pub returns-clause-in_turn : goal.returns-clause-in_turn
returns-clause-in_turn c cluster me facts volatile input step fact turn booted votes well_formed made is =
    and_from _ _ turn (made-allowed cluster me facts volatile input step fact turn booted votes well_formed made is)

pub returns-clause-booted : goal.returns-clause-booted
returns-clause-booted c cluster me facts volatile input step fact turn booted votes well_formed made is =
    booted-more facts fact booted (some_epoch cluster facts fact (made-allowed cluster me facts volatile input step fact turn booted votes well_formed made is))
