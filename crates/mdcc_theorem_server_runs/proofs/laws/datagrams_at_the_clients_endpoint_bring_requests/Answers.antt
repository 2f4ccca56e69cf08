use Rattle.mdcc_theorem_server_runs.proofs.Asked.{requests_come}
use Rattle.mdcc_theorem_server_runs.proofs.laws.datagrams_at_the_clients_endpoint_bring_requests.Goals as goal

pub returns : goal.returns
returns c = requests_come
