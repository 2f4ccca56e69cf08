use Rattle.std.proofs.Common.{◌≡◌, IfOk, subst, sym}
use Rattle.mdcc_command_ask.specs.Asking.{arrival_taken}
use Rattle.mdcc_command_ask.specs.Requests.{reaction_of}
use Rattle.mdcc_serve_inbox.specs.Finds.{arrival_of_found}
use Rattle.mdcc_serve_inbox.specs.declared.arrivals.Found.{Found}
use Rattle.mdcc_command_ask.proofs.client.Client.take_found.Goals as goal

pub returns-in-Message : goal.returns-in-Message
returns-in-Message c =
    subst (λ (f : Found). IfOk c.take_message.result (λ reply. reaction_of reply c.take_message.new.self ≡ arrival_taken c.args.schema.now c.args.order.now c.args.self.now (arrival_of_found f c.args.envelope.now)))
    (sym c.in-Message.is) c.take_message.ensures
