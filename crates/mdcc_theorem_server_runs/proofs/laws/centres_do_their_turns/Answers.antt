use Rattle.mdcc_theorem_server_runs.proofs.Centres.{centres_alone}
use Rattle.mdcc_theorem_server_runs.proofs.laws.centres_do_their_turns.Goals as goal

pub returns : goal.returns
returns c = centres_alone
