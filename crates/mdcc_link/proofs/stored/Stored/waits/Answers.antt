use Rattle.std.proofs.Common.{◌≡◌, ◌==◌, ◌∙◌, ap, find, rules}
use Rattle.std.specs.Option.{option_map}
use Rattle.std.specs.Prelude.{is_some}
use Rattle.mdcc_link.specs.declared.stored.Pending.{Pending}
use Rattle.mdcc_link.specs.Memory.{first_waiting_at}
use Rattle.mdcc_link.specs.Stored.{LinkStore}
use Rattle.mdcc_link.proofs.Queues.{piece_waits}
use Rattle.mdcc_link.proofs.stored.Stored.waits.Goals as goal

pub returns : goal.returns
returns c =
    let queue = c.self.inside.queue.items in
    let first : c.first_piece.result ≡ option_map (λ (p : Pending). p.piece) (find (λ (p : Pending). p.at == c.args.at) queue) = search rules in
    c.is_some.ensures ∙ ap is_some first ∙ piece_waits c.args.at c.self.inside.bytes.items queue
    ∙ ap (λ (s : LinkStore). is_some (first_waiting_at c.args.at s.waiting)) c.self.view_is
