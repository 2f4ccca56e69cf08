use Rattle.std.proofs.Common.{◌≡◌, Err, Result, arith, subst, sym, true}
use Rattle.std.proofs.lemmas.Result.{err_from_is_err_and}
use Rattle.mdcc_command_ask.proofs.Caused.{causes_later, causes_memory, causes_print}
use Rattle.mdcc_command_ask.proofs.Doings.{start_receives}
use Rattle.mdcc_command_ask.proofs.Seen.{not_begun}
use Rattle.mdcc_command_ask.proofs.Turns.{end_came, start_broke, turns_broke}
use Rattle.mdcc_command_ask.specs.Asking.{client_starts, end_text, new_client, whole_asking}
use Rattle.mdcc_command_ask.specs.Effects.{Asks, HasCauses}
use Rattle.mdcc_command_ask.specs.declared.fault.AskFault.{AskFault}
use Rattle.mdcc_command_ask.proofs.asking.ask.Goals as goal

pub returns-in_err-client-clause-asks : goal.returns-in_err-client-clause-asks
returns-in_err-client-clause-asks g c =
    let p = err_from_is_err_and c.from_residual.result c.from_residual.ensures.1 in
    rw (p.1, p.2)
    (start_broke g.L.Link.calls g.O.Sink.held c.args.config.now c.args.order.now c.args.turns c.args.link.now c.args.link.now c.args.out.now c.args.out.now new_client AskFault.Memory
    (not_begun g.L.Link.calls g.O.Sink.held (client_starts c.args.config.now c.args.order.now) c.args.link.now c.args.out.now (start_receives c.args.config.now c.args.order.now)))

pub returns-in_err-client-clause-causes : goal.returns-in_err-client-clause-causes
returns-in_err-client-clause-causes g c =
    let p = err_from_is_err_and c.from_residual.result c.from_residual.ensures.1 in
    rw (p.1, p.2) (causes_memory g.L.Link.faults g.O.Sink.faults c.args.link.now c.args.link.now c.args.out.now c.args.out.now (omega arith) (omega arith))

pub returns-in_err-start-clause-asks : goal.returns-in_err-start-clause-asks
returns-in_err-start-clause-asks g c =
    let p = err_from_is_err_and c.from_residual-in_err-start.result c.from_residual-in_err-start.ensures.1 in
    let e : c.from_residual-in_err-start.result ≡ Err c.in_err-start.field-0.0 = cc (p.1, p.2) in
    subst (λ (r : Result (Unit {0}) AskFault). Asks g.L.Link.calls g.O.Sink.held (whole_asking c.args.config.now c.args.order.now c.args.turns) c.args.turns r c.args.link.now c.start.new.link c.args.out.now c.start.new.out) (sym e)
    (start_broke g.L.Link.calls g.O.Sink.held c.args.config.now c.args.order.now c.args.turns c.args.link.now c.start.new.link c.args.out.now c.start.new.out c.start.new.self c.in_err-start.field-0.0 c.in_err-start.ensures.does)

pub returns-in_err-start-clause-causes : goal.returns-in_err-start-clause-causes
returns-in_err-start-clause-causes g c =
    let p = err_from_is_err_and c.from_residual-in_err-start.result c.from_residual-in_err-start.ensures.1 in
    let e : c.from_residual-in_err-start.result ≡ Err c.in_err-start.field-0.0 = cc (p.1, p.2) in
    subst (λ (r : Result (Unit {0}) AskFault). HasCauses g.L.Link.faults g.O.Sink.faults r c.args.link.now c.start.new.link c.args.out.now c.start.new.out) (sym e) c.in_err-start.ensures.causes

pub returns-in_err-turns-clause-asks : goal.returns-in_err-turns-clause-asks
returns-in_err-turns-clause-asks g c =
    let p = err_from_is_err_and c.from_residual-in_err-turns.result c.from_residual-in_err-turns.ensures.1 in
    let e : c.from_residual-in_err-turns.result ≡ Err c.in_err-turns.field-0.0 = cc (p.1, p.2) in
    subst (λ (r : Result (Unit {0}) AskFault). Asks g.L.Link.calls g.O.Sink.held (whole_asking c.args.config.now c.args.order.now c.args.turns) c.args.turns r c.args.link.now c.turns.new.link c.args.out.now c.turns.new.out) (sym e)
    (turns_broke g.L.Link.calls g.O.Sink.held c.args.config.now c.args.order.now c.args.turns c.args.link.now c.start.new.link c.args.out.now c.start.new.out c.start.new.self c.turns.new.link c.turns.new.out c.turns.new.self
    c.in_ok-start.ensures.does c.in_err-turns.field-0.0 c.in_err-turns.ensures.does)

pub returns-in_err-turns-clause-causes : goal.returns-in_err-turns-clause-causes
returns-in_err-turns-clause-causes g c =
    let p = err_from_is_err_and c.from_residual-in_err-turns.result c.from_residual-in_err-turns.ensures.1 in
    let e : c.from_residual-in_err-turns.result ≡ Err c.in_err-turns.field-0.0 = cc (p.1, p.2) in
    subst (λ (r : Result (Unit {0}) AskFault). HasCauses g.L.Link.faults g.O.Sink.faults r c.args.link.now c.turns.new.link c.args.out.now c.turns.new.out) (sym e)
    (causes_later g.L.Link.faults g.O.Sink.faults (Err c.in_err-turns.field-0.0) c.args.link.now c.start.new.link c.turns.new.link c.args.out.now c.start.new.out c.turns.new.out
    c.start.ensures.causes.link_later c.start.ensures.causes.output_later c.in_err-turns.ensures.causes)

pub returns-clause-asks : goal.returns-clause-asks
returns-clause-asks g c =
    end_came g.L.Link.calls g.O.Sink.held c.args.config.now c.args.order.now c.args.turns c.args.link.now c.start.new.link c.args.out.now c.start.new.out c.start.new.self c.turns.new.link c.turns.new.out c.turns.new.self
    c.in_ok-start.ensures.does g.O.Sink.faults c.end.new.out c.end.result c.in_ok-turns.ensures.does c.end.ensures

pub returns-clause-causes : goal.returns-clause-causes
returns-clause-causes g c =
    causes_later g.L.Link.faults g.O.Sink.faults c.end.result c.args.link.now c.start.new.link c.turns.new.link c.args.out.now c.start.new.out c.end.new.out
    c.start.ensures.causes.link_later c.start.ensures.causes.output_later
    (causes_later g.L.Link.faults g.O.Sink.faults c.end.result c.start.new.link c.turns.new.link c.turns.new.link c.start.new.out c.turns.new.out c.end.new.out
    c.turns.ensures.causes.link_later c.turns.ensures.causes.output_later
    (causes_print g.L.Link.faults g.O.Sink.faults g.O.Sink.held (end_text true c.turns.new.self.phase) c.end.result c.turns.new.link c.turns.new.out c.end.new.out c.end.ensures))
