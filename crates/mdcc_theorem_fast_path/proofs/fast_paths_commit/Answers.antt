-- The laws are the lemmas.
use Rattle.mdcc_def_simulation.specs.State.{first_world}
use Rattle.mdcc_def_language.specs.declared.events.Event.{Event}
use Rattle.mdcc_theorem_fast_path.proofs.FastPaths.{commits, roomy-commits, votes-given}
use Rattle.mdcc_theorem_fast_path.proofs.States.{two-more}
use Rattle.mdcc_theorem_fast_path.proofs.fast_paths_commit.Goals as goal

pub returns-clause-votes : goal.returns-clause-votes
returns-clause-votes c cluster is events a t members first order untaken quorum accept ask moved =
    votes-given cluster is events a t members first untaken quorum accept ask order moved

pub returns-clause-commits : goal.returns-clause-commits
returns-clause-commits c = commits

pub returns-clause-roomy : goal.returns-clause-roomy
returns-clause-roomy c = roomy-commits

pub returns-clause-report : goal.returns-clause-report
returns-clause-report c cluster events a t members first second whole trip =
    two-more (first_world cluster) events (Event.Deliver trip.deliveries.proposals) (Event.Deliver trip.deliveries.votes) first second whole trip.deliveries.proposed trip.deliveries.voted
