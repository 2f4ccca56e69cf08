use Rattle.std.proofs.Common.{◌+◌, ◌++◌, List, ap, ◌∙◌, map}
use Rattle.mdcc_def_ledger.specs.Ledger.{facts_of}
use Rattle.mdcc_def_messages.specs.Lengths.{messages_length}
use Rattle.mdcc_def_messages.specs.Mailbox.{unsent}
use Rattle.mdcc_def_messages.specs.declared.messages.Envelope.{Envelope}
use Rattle.mdcc_world.proofs.Happened.{may_be, residual, unlimited}
use Rattle.mdcc_world.proofs.Limits.{fact-is-formed, fact-is-framed, log-there, step-measures}
use Rattle.mdcc_world.proofs.Took.{step-refused, step-taken}
use Rattle.mdcc_def_simulation.specs.State.{is_up_at}
use Rattle.mdcc_theorem_worlds.specs.StepEffects.{limit_passed}
use Rattle.mdcc_world.proofs.world.World.commit_checked.Goals as goal

pub at_limits-requires-clause-within : goal.at_limits-requires-clause-within
at_limits-requires-clause-within c =
    let made = c.requires.some.2 in
    log-there c.args.self.now c.requires.some.0 c.args.centre made.before.centre made.before.logs

pub at_limits-requires-clause-formed : goal.at_limits-requires-clause-formed
at_limits-requires-clause-formed c = fact-is-formed c.args.self.now c.requires.some.0 c.args.centre c.requires.some.1 c.args.step.now c.requires.some.2

pub returns-in_err-at_limits-clause-happens : goal.returns-in_err-at_limits-clause-happens
returns-in_err-at_limits-clause-happens c w input made whole =
    let world = c.args.self.now in
    let a = c.args.centre in
    let step = c.args.step.now in
    let fault = c.in_err-at_limits.field-0.0 in
    let limit = c.in_err-at_limits.ensures.limit w (step-measures world w a input step made) in
    let here = limit ∙ ap (λ (xs : List Envelope). may_be (limit_passed w a step.fact xs)) c.requires.written in
    rw (residual c.from_residual.result fault c.from_residual.ensures.1) (step-refused world w a input step made whole fault here)

pub commit_outputs-requires-clause-within : goal.commit_outputs-requires-clause-within
commit_outputs-requires-clause-within c =
    let made = c.requires.some.2 in
    log-there c.args.self.now c.requires.some.0 c.args.centre made.before.centre made.before.logs

pub commit_outputs-requires-clause-framed : goal.commit_outputs-requires-clause-framed
commit_outputs-requires-clause-framed c = fact-is-framed c.args.self.now c.requires.some.0 c.args.centre c.requires.some.1 c.args.step.now c.requires.some.2

pub returns-clause-happens : goal.returns-clause-happens
returns-clause-happens c w input made whole =
    let world = c.args.self.now in
    let a = c.args.centre in
    let step = c.args.step.now in
    let written = c.requires.written in
    let limit = c.in_ok-at_limits.ensures.limit w (step-measures world w a input step made) in
    let open' = unlimited (limit_passed w a step.fact step.sends) (limit ∙ ap (λ (xs : List Envelope). may_be (limit_passed w a step.fact xs)) written) in
    step-taken world w a input step made whole c.commit_outputs.new.self c.args.lines.now c.commit_outputs.new.lines c.commit_outputs.ensures.rest open'
    (c.in_ok-commit_outputs.ensures.sent ∙ ap (λ (xs : List Envelope). world.network ++ map unsent xs) written)
    (c.in_ok-commit_outputs.ensures.bytes ∙ ap (λ (xs : List Envelope). world.bytes + messages_length xs) written)
    (c.in_ok-commit_outputs.ensures.logs w.cluster.quorums.centres (is_up_at w) (facts_of w.ledger) made.before.logs made.before.up)
    (c.in_ok-commit_outputs.ensures.tail w.cluster.quorums.centres (is_up_at w) (facts_of w.ledger) made.before.logs made.before.up)
    c.in_ok-commit_outputs.ensures.ledger c.in_ok-commit_outputs.ensures.lines
