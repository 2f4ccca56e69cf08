use Rattle.mdcc_theorem_encoding.proofs.WellFormedTests.{well_formed_envelope, well_formed_fact}
use Rattle.mdcc_theorem_encoding.proofs.well_formed.tests_show_well_formed.Goals as goal

pub returns-clause-messages : goal.returns-clause-messages
returns-clause-messages c = well_formed_envelope

pub returns-clause-facts : goal.returns-clause-facts
returns-clause-facts c = well_formed_fact
