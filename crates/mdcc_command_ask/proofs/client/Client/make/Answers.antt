use Rattle.std.proofs.Common.{◌≡◌, Err, List, Result, arith, subst, sym, ℕ}
use Rattle.std.specs.Io.KnownBytes.{Appends}
use Rattle.std.proofs.lemmas.Result.{err_from_is_err_and}
use Rattle.mdcc_command_ask.proofs.ActLists.{sends_receive}
use Rattle.mdcc_command_ask.proofs.Caused.{causes_none, causes_print}
use Rattle.mdcc_command_ask.proofs.Seen.{did_make, not_printed}
use Rattle.mdcc_command_ask.specs.Acts.{at_link}
use Rattle.mdcc_command_ask.specs.Asking.{reaction_made}
use Rattle.mdcc_command_ask.specs.Effects.{Does, HasCauses, Prints}
use Rattle.mdcc_command_ask.specs.Requests.{reaction_of, sends_if}
use Rattle.mdcc_command_ask.specs.declared.fault.AskFault.{AskFault}
use Rattle.mdcc_command_ask.proofs.client.Client.make.Goals as goal

pub returns-in_err-print-clause-does : goal.returns-in_err-print-clause-does
returns-in_err-print-clause-does g c =
    let p = err_from_is_err_and c.from_residual.result c.from_residual.ensures.1 in
    let e : c.from_residual.result ≡ Err c.in_err-print.field-0.0 = cc (p.1, p.2) in
    let config = c.args.config.now in
    let order = c.args.order.now in
    let prints = subst (λ (text : List ℕ). Prints g.O.Sink.held g.O.Sink.faults text (Err c.in_err-print.field-0.0) c.args.out.now c.print.new.out) c.as_slice.ensures c.in_err-print.ensures in
    subst (λ (r : Result (Unit {0}) AskFault). Does g.L.Link.calls g.O.Sink.held (reaction_made config order (reaction_of c.args.reply.now c.args.self.now)) r c.args.link.now c.args.link.now c.args.out.now c.print.new.out c.args.self.now) (sym e)
    (not_printed g.L.Link.calls g.O.Sink.held c.args.reply.now.text (at_link (sends_if config order c.args.reply.now.sends c.args.self.now)) c.args.self.now c.in_err-print.field-0.0
    c.args.link.now c.args.out.now c.print.new.out prints.fault (sends_receive config order c.args.reply.now.sends c.args.self.now) prints.begun)

pub returns-in_err-print-clause-causes : goal.returns-in_err-print-clause-causes
returns-in_err-print-clause-causes g c =
    let p = err_from_is_err_and c.from_residual.result c.from_residual.ensures.1 in
    let e : c.from_residual.result ≡ Err c.in_err-print.field-0.0 = cc (p.1, p.2) in
    subst (λ (r : Result (Unit {0}) AskFault). HasCauses g.L.Link.faults g.O.Sink.faults r c.args.link.now c.args.link.now c.args.out.now c.print.new.out) (sym e)
    (causes_print g.L.Link.faults g.O.Sink.faults g.O.Sink.held c.as_slice.result.now (Err c.in_err-print.field-0.0) c.args.link.now c.args.out.now c.print.new.out c.in_err-print.ensures)

pub returns-clause-does : goal.returns-clause-does
returns-clause-does g c =
    let wrote = subst (λ (text : List ℕ). Appends (g.O.Sink.held c.args.out.now) (g.O.Sink.held c.print.new.out) text) c.as_slice.ensures c.in_ok-print.ensures.all in
    did_make g.L.Link.calls g.O.Sink.held g.L.Link.lost g.L.Link.faults c.args.reply.now.text (sends_if c.args.config.now c.args.order.now c.args.reply.now.sends c.args.self.now) c.args.self.now c.send_if.result
    c.args.link.now c.send_if.new.link c.args.out.now c.print.new.out wrote c.send_if.ensures

pub returns-clause-causes : goal.returns-clause-causes
returns-clause-causes g c = causes_none g.L.Link.faults g.O.Sink.faults c.args.link.now c.send_if.new.link c.args.out.now c.print.new.out (omega (c.send_if.ensures.receives, arith)) c.print.ensures.cause.later
