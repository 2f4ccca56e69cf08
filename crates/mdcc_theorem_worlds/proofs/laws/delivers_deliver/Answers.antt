use Rattle.mdcc_theorem_worlds.proofs.Delivers.{delivering-begins, delivering-ends, delivering-goes_on, delivering-refused}
use Rattle.mdcc_theorem_worlds.proofs.laws.delivers_deliver.Goals as goal

pub returns-clause-begins : goal.returns-clause-begins
returns-clause-begins c = delivering-begins

pub returns-clause-goes_on : goal.returns-clause-goes_on
returns-clause-goes_on c = delivering-goes_on

pub returns-clause-ends : goal.returns-clause-ends
returns-clause-ends c = delivering-ends

pub returns-clause-stops : goal.returns-clause-stops
returns-clause-stops c = delivering-refused
