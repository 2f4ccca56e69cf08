use Rattle.std.proofs.Common.{◌∙◌, List, ap}
use Rattle.std.proofs.lemmas.Result.{IfOk-weaker}
use Rattle.mdcc_command_ask.specs.Asking.{arrival_taken, with_joiner}
use Rattle.mdcc_frag.specs.Joining.{JoinEntry, join}
use Rattle.mdcc_serve_inbox.specs.Finds.{arrival_of_found}
use Rattle.mdcc_def_server_runs.specs.Arrivals.{Arrival}
use Rattle.mdcc_command_ask.proofs.client.Client.take_bytes.Goals as goal

pub returns : goal.returns
returns c =
    let step = join c.args.bytes.now c.args.self.now.joiner in
    let joined = ap (λ (entries : List JoinEntry). arrival_taken c.args.schema.now c.args.order.now (with_joiner c.args.self.now entries) (arrival_of_found c.in_ok-found.found c.take_datagram.new.into)) c.in_ok-found.ensures.joined in
    let found = ap (λ (arrival : Arrival). arrival_taken c.args.schema.now c.args.order.now (with_joiner c.args.self.now step.entries) arrival) c.in_ok-found.ensures.found in
    IfOk-weaker c.take_found.result _ _ (λ reply h. h ∙ joined ∙ found) c.take_found.ensures
