use Rattle.std.proofs.Common.{◌+◌, ◌∷◌, [], None, arith, refl, subst, ℕ}
use Rattle.mdcc_command_ask.proofs.Caused.{causes_later, causes_link}
use Rattle.mdcc_command_ask.proofs.Doings.{came_receives}
use Rattle.mdcc_command_ask.proofs.Seen.{broke_first, did_one, failed_acts, then_does}
use Rattle.mdcc_command_ask.specs.Acts.{ClientAct}
use Rattle.mdcc_command_ask.specs.Asking.{acts_only, came}
use Rattle.mdcc_command_ask.specs.declared.fault.AskFault.{AskFault}
use Rattle.mdcc_serve_inbox.specs.Finds.{bytes_given}
use Rattle.mdcc_serve_outbox.specs.Shows.{Records, call_of, failed_call}
use Rattle.mdcc_def_server_runs.specs.Acts.{Act}
use Rattle.mdcc_command_ask.proofs.client.Client.turn.Goals as goal

pub returns-in-Err-clause-does : goal.returns-in-Err-clause-does
returns-in-Err-clause-does g c =
    let at = c.args.order.now.centre + 16 in
    let recorded = subst (λ (n : ℕ). Records (failed_call (Act.Receive (n + 16) None)) (g.L.Link.calls c.args.link.now) (g.L.Link.calls c.receive.new.link)) c.number.ensures.value c.in-Err.ensures.failed in (
      None,
      broke_first g.L.Link.calls g.O.Sink.held (acts_only (ClientAct.AtLink (Act.Receive at None) ∷ []) c.args.self.now) (came c.args.config.now c.args.order.now None c.args.self.now) AskFault.Link
          c.args.link.now c.receive.new.link c.args.out.now c.args.out.now (came_receives c.args.config.now c.args.order.now None c.args.self.now)
          (failed_acts g.L.Link.calls g.O.Sink.held (ClientAct.AtLink (Act.Receive at None) ∷ []) c.args.self.now c.args.link.now c.receive.new.link c.args.out.now tt refl recorded),
    )

pub returns-in-Err-clause-causes : goal.returns-in-Err-clause-causes
returns-in-Err-clause-causes g c =
    causes_link g.L.Link.faults g.O.Sink.faults c.args.link.now c.receive.new.link c.args.out.now c.args.out.now c.in-Err.ensures.cause.later c.in-Err.ensures.cause.failed (omega arith)

pub returns-in-Ok-clause-does : goal.returns-in-Ok-clause-does
returns-in-Ok-clause-does g c =
    let at = c.args.order.now.centre + 16 in
    let gave = bytes_given c.in-Ok.count c.receive.new.datagram in
    let recorded = subst (λ (n : ℕ). Records (call_of (Act.Receive (n + 16) gave)) (g.L.Link.calls c.args.link.now) (g.L.Link.calls c.receive.new.link)) c.number.ensures.value c.in-Ok.ensures.received in (
      gave,
      then_does g.L.Link.calls g.O.Sink.held (acts_only (ClientAct.AtLink (Act.Receive at gave) ∷ []) c.args.self.now) (came c.args.config.now c.args.order.now gave) c.take_received.result
          c.args.link.now c.receive.new.link c.take_received.new.link c.args.out.now c.args.out.now c.take_received.new.out c.args.self.now c.take_received.new.self
          (did_one g.L.Link.calls g.O.Sink.held (Act.Receive at gave) c.args.self.now c.args.link.now c.receive.new.link c.args.out.now refl recorded) c.take_received.ensures.does,
    )

pub returns-in-Ok-clause-causes : goal.returns-in-Ok-clause-causes
returns-in-Ok-clause-causes g c =
    causes_later g.L.Link.faults g.O.Sink.faults c.take_received.result c.args.link.now c.receive.new.link c.take_received.new.link c.args.out.now c.args.out.now c.take_received.new.out
    c.in-Ok.ensures.cause.later (omega arith) c.take_received.ensures.causes
