use Rattle.mdcc_given_back.proofs.VersionsLeft.{base-stays, crowding-stays, current-stays, delta-stays, deltas-stay, executed-stays, forgotten-stays, token-stays}
use Rattle.mdcc_given_back.proofs.versions.version_rests.Goals as goal

pub returns-clause-current : goal.returns-clause-current
returns-clause-current c = current-stays

pub returns-clause-forgotten : goal.returns-clause-forgotten
returns-clause-forgotten c = forgotten-stays

pub returns-clause-base : goal.returns-clause-base
returns-clause-base c = base-stays

pub returns-clause-deltas : goal.returns-clause-deltas
returns-clause-deltas c = deltas-stay

pub returns-clause-executed : goal.returns-clause-executed
returns-clause-executed c = executed-stays

pub returns-clause-delta : goal.returns-clause-delta
returns-clause-delta c = delta-stays

pub returns-clause-token : goal.returns-clause-token
returns-clause-token c = token-stays

pub returns-clause-crowding : goal.returns-clause-crowding
returns-clause-crowding c = crowding-stays
