use Rattle.std.proofs.Common.{◌≡◌, [], ◌∷◌, ◌++◌, List, length, Option, Result, ℕ, sym, ◌∙◌, ap, rules}
use Rattle.mdcc_base.specs.declared.faults.Failed.{Failed}
use Rattle.mdcc_link.specs.declared.stored.Note.{Note}
use Rattle.mdcc_link.specs.declared.stored.Noted.TheVariants as noted
use Rattle.mdcc_link.specs.declared.stored.Dispatch.{Dispatch}
use Rattle.mdcc_link.specs.declared.stored.Pending.{Pending}
use Rattle.mdcc_link.specs.Link.LinkCall.{Send}
use Rattle.mdcc_link.specs.Memory.{SentDatagram, arrived, endpoint_of, sent_after, waiting_after}
use Rattle.mdcc_link.specs.Stored.{LinkStore, pending_after}
use Rattle.mdcc_link.proofs.Pieces.{new_bytes, new_within, grown_within, pushed_within}
use Rattle.mdcc_link.proofs.Queues.{arrived_waiting, arrived_within, waiting_stay}
use Rattle.mdcc_link.proofs.Storing.{store_is, calls_push, sent_push, sent_stay}
use Rattle.mdcc_link.proofs.stored.Stored.send.Goals as goal

pub invariant_of-self : goal.invariant_of-self
invariant_of-self c =
    let pool = c.self.inside.bytes.items in
    let grown = c.store-piece.new.pool.items in
    let bytes = c.args.bytes.now in
    let note : Note = record { call = noted.Send c.args.from c.args.to c.args.answer; piece = c.store-piece.result } in
    let last : Dispatch = record { from = c.args.from; to = c.args.to; piece = c.store-piece.result } in
    let noted_is : c.add.new.list.items ≡ c.self.inside.notes.items ++ note ∷ [] = search rules in
    let sent_is : c.add-in-Ok.new.list.items ≡ c.self.inside.sends.items ++ last ∷ [] = search rules in
    let waits : c.let_wait.new.queue.items ≡ pending_after c.endpoint_of-at.result c.store-piece.result c.self.inside.queue.items = search rules in
    let fits = new_within c.store-piece.result pool grown bytes c.store-piece.ensures.piece c.store-piece.ensures.items in
    record {
      calls = pushed_within (λ (n : Note). n.piece) (length grown) c.self.inside.notes.items c.add.new.list.items note noted_is
          (grown_within (λ (n : Note). n.piece) pool grown bytes c.self.inside.notes.items c.store-piece.ensures.items c.self.invariant.calls) fits;
      sent = pushed_within (λ (s : Dispatch). s.piece) (length grown) c.self.inside.sends.items c.add-in-Ok.new.list.items last sent_is
          (grown_within (λ (s : Dispatch). s.piece) pool grown bytes c.self.inside.sends.items c.store-piece.ensures.items c.self.invariant.sent) fits;
      waiting = arrived_within c.endpoint_of-at.result c.store-piece.result c.self.inside.queue.items c.let_wait.new.queue.items (length grown)
          (grown_within (λ (p : Pending). p.piece) pool grown bytes c.self.inside.queue.items c.store-piece.ensures.items c.self.invariant.waiting) waits fits;
    }

pub invariant_of-self-in-Err : goal.invariant_of-self-in-Err
invariant_of-self-in-Err c =
    let pool = c.self.inside.bytes.items in
    let grown = c.store-piece.new.pool.items in
    let bytes = c.args.bytes.now in
    let note : Note = record { call = noted.Send c.args.from c.args.to c.args.answer; piece = c.store-piece.result } in
    let noted_is : c.add.new.list.items ≡ c.self.inside.notes.items ++ note ∷ [] = search rules in
    let fits = new_within c.store-piece.result pool grown bytes c.store-piece.ensures.piece c.store-piece.ensures.items in
    record {
      calls = pushed_within (λ (n : Note). n.piece) (length grown) c.self.inside.notes.items c.add.new.list.items note noted_is
          (grown_within (λ (n : Note). n.piece) pool grown bytes c.self.inside.notes.items c.store-piece.ensures.items c.self.invariant.calls) fits;
      sent = grown_within (λ (s : Dispatch). s.piece) pool grown bytes c.self.inside.sends.items c.store-piece.ensures.items c.self.invariant.sent;
      waiting = grown_within (λ (p : Pending). p.piece) pool grown bytes c.self.inside.queue.items c.store-piece.ensures.items c.self.invariant.waiting;
    }

pub returns-in-Ok-clause-store : goal.returns-in-Ok-clause-store
returns-in-Ok-clause-store c =
    let pool = c.self.inside.bytes.items in
    let grown = c.store-piece.new.pool.items in
    let bytes = c.args.bytes.now in
    let now = c.args.self.now in
    let note : Note = record { call = noted.Send c.args.from c.args.to c.args.answer; piece = c.store-piece.result } in
    let last : Dispatch = record { from = c.args.from; to = c.args.to; piece = c.store-piece.result } in
    let datagram : SentDatagram = record { from = c.args.from; to = c.args.to; bytes = bytes } in
    let noted_is : c.add.new.list.items ≡ c.self.inside.notes.items ++ note ∷ [] = search rules in
    let sent_is : c.add-in-Ok.new.list.items ≡ c.self.inside.sends.items ++ last ∷ [] = search rules in
    let waits : c.let_wait.new.queue.items ≡ pending_after c.endpoint_of-at.result c.store-piece.result c.self.inside.queue.items = search rules in
    let ends : c.endpoint_of-at.result ≡ endpoint_of c.self.inside.bound.items c.args.to = search rules in
    let made = new_bytes c.store-piece.result pool grown bytes c.store-piece.ensures.piece c.store-piece.ensures.items in
    store_is _ _ _ _ _ _ _ _ _ _
    (calls_push c.self.inside.notes.items c.add.new.list.items note pool grown bytes now.calls (Send c.args.from c.args.to bytes c.args.answer) c.self.invariant.calls
    (ap (λ (s : LinkStore). s.calls) c.self.view_is) c.store-piece.ensures.items noted_is (ap (λ (b : List ℕ). Send c.args.from c.args.to b c.args.answer) made))
    (ap (λ (s : LinkStore). s.bound) c.self.view_is)
    (sent_push c.self.inside.sends.items c.add-in-Ok.new.list.items last pool grown bytes now.sent datagram c.self.invariant.sent (ap (λ (s : LinkStore). s.sent) c.self.view_is)
    c.store-piece.ensures.items sent_is (ap (λ (b : List ℕ). record { from = c.args.from; to = c.args.to; bytes = b }) made)
    ∙ sym (ap (λ (a : Result (Unit {0}) Failed). sent_after (Send c.args.from c.args.to bytes a) now.sent) c.in-Ok.is))
    (arrived_waiting c.endpoint_of-at.result c.store-piece.result c.self.inside.queue.items c.let_wait.new.queue.items pool grown bytes bytes c.self.invariant.waiting c.store-piece.ensures.items waits made
    ∙ ap (λ (s : LinkStore). arrived c.endpoint_of-at.result bytes s.waiting) c.self.view_is
    ∙ ap (λ (o : Option ℕ). arrived o bytes now.waiting) ends
    ∙ ap (λ (s : LinkStore). arrived (endpoint_of s.bound c.args.to) bytes now.waiting) c.self.view_is
    ∙ sym (ap (λ (a : Result (Unit {0}) Failed). waiting_after (Send c.args.from c.args.to bytes a) now.bound now.waiting) c.in-Ok.is))

pub returns-in-Err-clause-store : goal.returns-in-Err-clause-store
returns-in-Err-clause-store c =
    let pool = c.self.inside.bytes.items in
    let grown = c.store-piece.new.pool.items in
    let bytes = c.args.bytes.now in
    let now = c.args.self.now in
    let note : Note = record { call = noted.Send c.args.from c.args.to c.args.answer; piece = c.store-piece.result } in
    let noted_is : c.add.new.list.items ≡ c.self.inside.notes.items ++ note ∷ [] = search rules in
    let made = new_bytes c.store-piece.result pool grown bytes c.store-piece.ensures.piece c.store-piece.ensures.items in
    store_is _ _ _ _ _ _ _ _ _ _
    (calls_push c.self.inside.notes.items c.add.new.list.items note pool grown bytes now.calls (Send c.args.from c.args.to bytes c.args.answer) c.self.invariant.calls
    (ap (λ (s : LinkStore). s.calls) c.self.view_is) c.store-piece.ensures.items noted_is (ap (λ (b : List ℕ). Send c.args.from c.args.to b c.args.answer) made))
    (ap (λ (s : LinkStore). s.bound) c.self.view_is)
    (sent_stay c.self.inside.sends.items pool grown bytes now.sent c.self.invariant.sent (ap (λ (s : LinkStore). s.sent) c.self.view_is) c.store-piece.ensures.items
    ∙ sym (ap (λ (a : Result (Unit {0}) Failed). sent_after (Send c.args.from c.args.to bytes a) now.sent) c.in-Err.is))
    (waiting_stay c.self.inside.queue.items pool grown bytes now.waiting c.self.invariant.waiting (ap (λ (s : LinkStore). s.waiting) c.self.view_is) c.store-piece.ensures.items
    ∙ sym (ap (λ (a : Result (Unit {0}) Failed). waiting_after (Send c.args.from c.args.to bytes a) now.bound now.waiting) c.in-Err.is))
