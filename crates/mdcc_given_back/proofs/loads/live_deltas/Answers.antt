use Rattle.mdcc_given_back.proofs.DeltasLive.{deltas-live, well_formed-own}
use Rattle.mdcc_given_back.proofs.loads.live_deltas.Goals as goal

pub returns-clause-deltas : goal.returns-clause-deltas
returns-clause-deltas c = deltas-live

pub returns-clause-own : goal.returns-clause-own
returns-clause-own c = well_formed-own
