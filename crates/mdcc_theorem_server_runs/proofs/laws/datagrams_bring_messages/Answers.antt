use Rattle.mdcc_theorem_server_runs.proofs.Came.{messages_come}
use Rattle.mdcc_theorem_server_runs.proofs.laws.datagrams_bring_messages.Goals as goal

pub returns : goal.returns
returns c = messages_come
