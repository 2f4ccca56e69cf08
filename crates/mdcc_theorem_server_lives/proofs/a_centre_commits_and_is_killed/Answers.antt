-- It computes.
use Rattle.std.proofs.Common.{refl}
use Rattle.mdcc_theorem_server_lives.proofs.Examples.{example-history}
use Rattle.mdcc_theorem_server_lives.proofs.a_centre_commits_and_is_killed.Goals as goal

pub returns-clause-history : goal.returns-clause-history
returns-clause-history c = example-history

pub returns-clause-lines : goal.returns-clause-lines
returns-clause-lines c = refl
