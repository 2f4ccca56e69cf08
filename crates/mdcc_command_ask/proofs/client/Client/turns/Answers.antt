use Rattle.std.proofs.Common.{◌≡◌, ◌∙◌, Err, Result, arith, false, subst, sym, true, ℕ}
use Rattle.std.proofs.lemmas.Result.{err_from_is_err_and}
use Rattle.mdcc_command_ask.proofs.Caused.{causes_later, causes_none}
use Rattle.mdcc_command_ask.proofs.Turns.{Went, went_all, went_answered, went_broke, went_none, went_on}
use Rattle.mdcc_command_ask.specs.Asking.{client_turns, is_answered}
use Rattle.mdcc_command_ask.specs.Effects.{HasCauses, Turned}
use Rattle.mdcc_command_ask.specs.declared.fault.AskFault.{AskFault}
use Rattle.mdcc_command_ask.proofs.client.Client.turns.Goals as goal

pub loop-index-init : goal.loop-index-init
loop-index-init g c = record {
  went = went_none g.L.Link.calls g.O.Sink.held c.args.config.now c.args.order.now c.args.self.now c.args.link.now c.args.out.now;
  few = c.requires.few;
  link = omega arith;
  output = omega arith;
}

pub loop-index-preserved : goal.loop-index-preserved
loop-index-preserved g c =
    let unanswered : is_answered c.loop-index.self.phase ≡ false = sym c.is_answered.ensures ∙ c.if-is_answered.false in
    let turn = c.in_ok-turn.ensures.does in
    record {
      went = went_on g.L.Link.calls g.O.Sink.held c.args.config.now c.args.order.now c.args.self.now c.args.link.now c.args.out.now c.loop-index.index turn.0 c.loop-index.link c.turn.new.link c.loop-index.out c.turn.new.out
          c.loop-index.self c.turn.new.self c.loop-index.invariant.went unanswered turn.1;
      few = c.in_ok-turn.ensures.few;
      link = omega (c.loop-index.invariant.link, c.turn.ensures.causes.link_later, arith);
      output = omega (c.loop-index.invariant.output, c.turn.ensures.causes.output_later, arith);
    }

pub returns-then-is_answered-clause-does : goal.returns-then-is_answered-clause-does
returns-then-is_answered-clause-does g c =
    let answered : is_answered c.loop-index.self.phase ≡ true = sym c.is_answered.ensures ∙ c.if-is_answered.true in
    went_answered g.L.Link.calls g.O.Sink.held c.args.config.now c.args.order.now c.args.self.now c.args.link.now c.args.out.now c.loop-index.index c.args.turns c.loop-index.link c.loop-index.out c.loop-index.self
    c.loop-index.invariant.went (omega arith) answered

pub returns-then-is_answered-clause-causes : goal.returns-then-is_answered-clause-causes
returns-then-is_answered-clause-causes g c =
    causes_none g.L.Link.faults g.O.Sink.faults c.args.link.now c.loop-index.link c.args.out.now c.loop-index.out c.loop-index.invariant.link c.loop-index.invariant.output

pub returns-in_err-turn-clause-does : goal.returns-in_err-turn-clause-does
returns-in_err-turn-clause-does g c =
    let unanswered : is_answered c.loop-index.self.phase ≡ false = sym c.is_answered.ensures ∙ c.if-is_answered.false in
    let p = err_from_is_err_and c.from_residual.result c.from_residual.ensures.1 in
    let e : c.from_residual.result ≡ Err c.in_err-turn.field-0.0 = cc (p.1, p.2) in
    let turn = c.in_err-turn.ensures.does in
    subst (λ (r : Result (Unit {0}) AskFault). Turned g.L.Link.calls g.O.Sink.held (λ given. client_turns c.args.config.now c.args.order.now given c.args.self.now) c.args.turns r c.args.link.now c.turn.new.link c.args.out.now c.turn.new.out c.turn.new.self) (sym e)
    (went_broke g.L.Link.calls g.O.Sink.held c.args.config.now c.args.order.now c.args.self.now c.args.link.now c.args.out.now c.loop-index.index c.args.turns turn.0 c.in_err-turn.field-0.0 c.loop-index.link c.turn.new.link
    c.loop-index.out c.turn.new.out c.loop-index.self c.turn.new.self c.loop-index.invariant.went unanswered (omega arith) turn.1)

pub returns-in_err-turn-clause-causes : goal.returns-in_err-turn-clause-causes
returns-in_err-turn-clause-causes g c =
    let p = err_from_is_err_and c.from_residual.result c.from_residual.ensures.1 in
    let e : c.from_residual.result ≡ Err c.in_err-turn.field-0.0 = cc (p.1, p.2) in
    subst (λ (r : Result (Unit {0}) AskFault). HasCauses g.L.Link.faults g.O.Sink.faults r c.args.link.now c.turn.new.link c.args.out.now c.turn.new.out) (sym e)
    (causes_later g.L.Link.faults g.O.Sink.faults (Err c.in_err-turn.field-0.0) c.args.link.now c.loop-index.link c.turn.new.link c.args.out.now c.loop-index.out c.turn.new.out c.loop-index.invariant.link c.loop-index.invariant.output c.in_err-turn.ensures.causes)

pub returns-clause-does : goal.returns-clause-does
returns-clause-does g c =
    let all : c.loop-index.index ≡ c.args.turns = omega arith in
    let went = subst (λ (n : ℕ). Went g.L.Link.calls g.O.Sink.held c.args.config.now c.args.order.now c.args.self.now c.args.link.now c.args.out.now n c.loop-index.link c.loop-index.out c.loop-index.self) all c.loop-index.invariant.went in
    went_all g.L.Link.calls g.O.Sink.held c.args.config.now c.args.order.now c.args.self.now c.args.link.now c.args.out.now c.args.turns c.loop-index.link c.loop-index.out c.loop-index.self went

pub returns-clause-causes : goal.returns-clause-causes
returns-clause-causes g c =
    causes_none g.L.Link.faults g.O.Sink.faults c.args.link.now c.loop-index.link c.args.out.now c.loop-index.out c.loop-index.invariant.link c.loop-index.invariant.output
