use Rattle.std.proofs.Common.{◌≤◌, Ok, Option, ap, arith, length, subst, sym, take, ℕ}
use Rattle.std.proofs.lemmas.Result.{err_from_is_err_and}
use Rattle.mdcc_command_ask.proofs.Caused.{causes_memory, causes_none}
use Rattle.mdcc_command_ask.proofs.Few.{few_taken}
use Rattle.mdcc_command_ask.proofs.Doings.{came_receives}
use Rattle.mdcc_command_ask.proofs.Seen.{did_send, not_begun}
use Rattle.mdcc_command_ask.proofs.Turns.{on_ok}
use Rattle.mdcc_command_ask.specs.Asking.{came, reaction_made}
use Rattle.mdcc_command_ask.specs.Effects.{Does}
use Rattle.mdcc_command_ask.specs.Requests.{Reaction, sends_again}
use Rattle.mdcc_command_ask.specs.declared.client.Client.{Client}
use Rattle.mdcc_serve_inbox.specs.Finds.{bytes_given}
use Rattle.mdcc_command_ask.proofs.client.Client.take_received.Goals as goal

-- ---- nothing came

pub returns-in_default-clause-does : goal.returns-in_default-clause-does
returns-in_default-clause-does g c =
    subst (λ (n : Option ℕ). Does g.L.Link.calls g.O.Sink.held (came c.args.config.now c.args.order.now (bytes_given n c.args.datagram.now) c.args.self.now) (Ok tt) c.args.link.now c.send_again.new.link c.args.out.now c.args.out.now c.args.self.now)
    (sym c.in_default.is)
    (did_send g.L.Link.calls g.O.Sink.held g.L.Link.lost g.L.Link.faults (sends_again c.args.config.now c.args.order.now c.args.self.now) c.args.self.now c.send_again.result
    c.args.link.now c.send_again.new.link c.args.out.now c.send_again.ensures)

pub returns-in_default-clause-causes : goal.returns-in_default-clause-causes
returns-in_default-clause-causes g c =
    causes_none g.L.Link.faults g.O.Sink.faults c.args.link.now c.send_again.new.link c.args.out.now c.args.out.now (omega (c.send_again.ensures.receives, arith)) (omega arith)

-- ---- a datagram came

pub returns-in_err-reply-clause-does : goal.returns-in_err-reply-clause-does
returns-in_err-reply-clause-does g c =
    let p = err_from_is_err_and c.from_residual.result c.from_residual.ensures.1 in
    let gave = bytes_given c.args.count c.args.datagram.now in
    rw (p.1, p.2) (not_begun g.L.Link.calls g.O.Sink.held (came c.args.config.now c.args.order.now gave c.args.self.now) c.args.link.now c.args.out.now (came_receives c.args.config.now c.args.order.now gave c.args.self.now))

pub returns-in_err-reply-clause-causes : goal.returns-in_err-reply-clause-causes
returns-in_err-reply-clause-causes g c =
    let p = err_from_is_err_and c.from_residual.result c.from_residual.ensures.1 in
    rw (p.1, p.2) (causes_memory g.L.Link.faults g.O.Sink.faults c.args.link.now c.args.link.now c.args.out.now c.args.out.now (omega arith) (omega arith))

pub make-requires-clause-few : goal.make-requires-clause-few
make-requires-clause-few g c =
    let same = ap (λ (r : Reaction). r.client) c.in_ok-reply.ensures in
    let few : length c.take_bytes.new.self.known ≤ length c.args.order.now.keys =
    subst (λ (client : Client). length client.known ≤ length c.args.order.now.keys) (sym same) (few_taken c.args.config.now.cluster.schema c.args.order.now c.args.self.now (take c.in-Some.count c.args.datagram.now) c.requires.few) in
    omega (few, c.requires.order.few, arith)

pub returns-clause-does : goal.returns-clause-does
returns-clause-does g c =
    subst (λ (n : Option ℕ). Does g.L.Link.calls g.O.Sink.held (came c.args.config.now c.args.order.now (bytes_given n c.args.datagram.now) c.args.self.now) c.make.result c.args.link.now c.make.new.link c.args.out.now c.make.new.out c.take_bytes.new.self)
    (sym c.in-Some.is)
    (subst (λ (r : Reaction). Does g.L.Link.calls g.O.Sink.held (reaction_made c.args.config.now c.args.order.now r) c.make.result c.args.link.now c.make.new.link c.args.out.now c.make.new.out c.take_bytes.new.self) c.in_ok-reply.ensures c.make.ensures.does)

pub returns-clause-few : goal.returns-clause-few
returns-clause-few g c =
    let same = ap (λ (r : Reaction). r.client) c.in_ok-reply.ensures in
    on_ok c.make.result (length c.take_bytes.new.self.known ≤ length c.args.order.now.keys)
    (subst (λ (client : Client). length client.known ≤ length c.args.order.now.keys) (sym same) (few_taken c.args.config.now.cluster.schema c.args.order.now c.args.self.now (take c.in-Some.count c.args.datagram.now) c.requires.few))
