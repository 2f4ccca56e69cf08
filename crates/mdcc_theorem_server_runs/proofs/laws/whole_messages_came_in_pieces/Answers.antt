use Rattle.mdcc_theorem_server_runs.proofs.Pieces.{whole_came}
use Rattle.mdcc_theorem_server_runs.proofs.laws.whole_messages_came_in_pieces.Goals as goal

pub returns : goal.returns
returns c = whole_came
