use Rattle.mdcc_theorem_worlds.proofs.Settles.{settle-closed, settling-begins, settling-breaks, settling-ends, settling-goes_on, settling-stops}
use Rattle.mdcc_theorem_worlds.proofs.laws.settles_deliver.Goals as goal

pub returns-clause-begins : goal.returns-clause-begins
returns-clause-begins c = settling-begins

pub returns-clause-goes_on : goal.returns-clause-goes_on
returns-clause-goes_on c = settling-goes_on

pub returns-clause-breaks : goal.returns-clause-breaks
returns-clause-breaks c = settling-breaks

pub returns-clause-ends : goal.returns-clause-ends
returns-clause-ends c = settling-ends

pub returns-clause-stops : goal.returns-clause-stops
returns-clause-stops c = settling-stops

pub returns-clause-fails : goal.returns-clause-fails
returns-clause-fails c = settle-closed
