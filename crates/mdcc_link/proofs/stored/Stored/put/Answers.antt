use Rattle.std.proofs.Common.{◌≡◌, length, Some, ◌∙◌, ap, rules}
use Rattle.mdcc_link.specs.declared.stored.Note.{Note}
use Rattle.mdcc_link.specs.declared.stored.Dispatch.{Dispatch}
use Rattle.mdcc_link.specs.declared.stored.Pending.{Pending}
use Rattle.mdcc_link.specs.Memory.{arrived}
use Rattle.mdcc_link.specs.Stored.{LinkStore, pending_after}
use Rattle.mdcc_link.proofs.Pieces.{new_bytes, new_within, grown_within}
use Rattle.mdcc_link.proofs.Queues.{arrived_waiting, arrived_within}
use Rattle.mdcc_link.proofs.Storing.{store_is, calls_stay, sent_stay}
use Rattle.mdcc_link.proofs.stored.Stored.put.Goals as goal

pub invariant_of-self : goal.invariant_of-self
invariant_of-self c =
    let pool = c.self.inside.bytes.items in
    let grown = c.store-piece.new.pool.items in
    let bytes = c.args.bytes.now in
    let waits : c.let_wait.new.queue.items ≡ pending_after (Some c.args.at) c.store-piece.result c.self.inside.queue.items = search rules in
    let fits = new_within c.store-piece.result pool grown bytes c.store-piece.ensures.piece c.store-piece.ensures.items in
    record {
      calls = grown_within (λ (n : Note). n.piece) pool grown bytes c.self.inside.notes.items c.store-piece.ensures.items c.self.invariant.calls;
      sent = grown_within (λ (s : Dispatch). s.piece) pool grown bytes c.self.inside.sends.items c.store-piece.ensures.items c.self.invariant.sent;
      waiting = arrived_within (Some c.args.at) c.store-piece.result c.self.inside.queue.items c.let_wait.new.queue.items (length grown)
          (grown_within (λ (p : Pending). p.piece) pool grown bytes c.self.inside.queue.items c.store-piece.ensures.items c.self.invariant.waiting) waits fits;
    }

pub returns-clause-store : goal.returns-clause-store
returns-clause-store c =
    let pool = c.self.inside.bytes.items in
    let grown = c.store-piece.new.pool.items in
    let bytes = c.args.bytes.now in
    let now = c.args.self.now in
    let waits : c.let_wait.new.queue.items ≡ pending_after (Some c.args.at) c.store-piece.result c.self.inside.queue.items = search rules in
    let made = new_bytes c.store-piece.result pool grown bytes c.store-piece.ensures.piece c.store-piece.ensures.items in
    store_is _ _ _ _ _ _ _ _ _ _
    (calls_stay c.self.inside.notes.items pool grown bytes now.calls c.self.invariant.calls (ap (λ (s : LinkStore). s.calls) c.self.view_is) c.store-piece.ensures.items)
    (ap (λ (s : LinkStore). s.bound) c.self.view_is)
    (sent_stay c.self.inside.sends.items pool grown bytes now.sent c.self.invariant.sent (ap (λ (s : LinkStore). s.sent) c.self.view_is) c.store-piece.ensures.items)
    (arrived_waiting (Some c.args.at) c.store-piece.result c.self.inside.queue.items c.let_wait.new.queue.items pool grown bytes bytes c.self.invariant.waiting c.store-piece.ensures.items waits made
    ∙ ap (λ (s : LinkStore). arrived (Some c.args.at) bytes s.waiting) c.self.view_is)
