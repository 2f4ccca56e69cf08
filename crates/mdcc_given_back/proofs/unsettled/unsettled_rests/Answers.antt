use Rattle.mdcc_given_back.proofs.UnsettledLeft.{unresolved-by-rest, unresolved-stays, unresolved_at-stays, write_set-by-rest}
use Rattle.mdcc_given_back.proofs.unsettled.unsettled_rests.Goals as goal

pub returns-clause-unresolved : goal.returns-clause-unresolved
returns-clause-unresolved c = unresolved-stays

pub returns-clause-by_rest : goal.returns-clause-by_rest
returns-clause-by_rest c = unresolved-by-rest

pub returns-clause-at_place : goal.returns-clause-at_place
returns-clause-at_place c = unresolved_at-stays

pub returns-clause-write_set : goal.returns-clause-write_set
returns-clause-write_set c = write_set-by-rest
