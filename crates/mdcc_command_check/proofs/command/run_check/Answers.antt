use Rattle.std.proofs.Common.{◌<◌, Result, length, refl, subst, sym}
use Rattle.std.proofs.KnownBytes.{Consumes-whole}
use Rattle.mdcc_command_check.proofs.Answered.{does_check, for_each, for_such, too_long, unanswered}
use Rattle.mdcc_command_check.specs.Checks.{Answers, DoesCheck, answer_to_input, checked_answer}
use Rattle.mdcc_check_histories.specs.declared.texts.HistoryFault.{HistoryFault}
use Rattle.mdcc_check_histories.specs.declared.texts.TextVerdict.{TextVerdict}
use Rattle.mdcc_def_language.specs.Errors.{most_input}
use Rattle.mdcc_command_check.proofs.command.run_check.Goals as goal

pub returns-in-Ok-clause-does : goal.returns-in-Ok-clause-does
returns-in-Ok-clause-does g c =
    let answers = rw c.as_slice.ensures.value at c.check.ensures.answers in
    Consumes-whole (g.S.Source.left c.args.source.now) (g.S.Source.left c.read_all.new.source) _
    (λ input. DoesCheck input c.check.result (g.O.Sink.held c.args.out.now) (g.O.Sink.held c.check.new.out) (g.E.Sink.held c.args.err.now) (g.E.Sink.held c.check.new.err) (g.E.Sink.faults c.args.err.now) (g.E.Sink.faults c.check.new.err))
    c.in-Ok.ensures.bytes c.in-Ok.ensures.end.0
    (does_check c.in-Ok.input.items c.check.result (g.O.Sink.held c.args.out.now) (g.O.Sink.held c.check.new.out) (g.E.Sink.held c.args.err.now) (g.E.Sink.held c.check.new.err) (g.E.Sink.faults c.args.err.now) (g.E.Sink.faults c.check.new.err) answers)

pub returns-in-Err-TooLong-clause-does : goal.returns-in-Err-TooLong-clause-does
returns-in-Err-TooLong-clause-does g c =
    for_such (g.S.Source.left c.args.source.now) (λ input. most_input < length input) _
    (λ input long. does_check input c.end_refused.result (g.O.Sink.held c.args.out.now) (g.O.Sink.held c.args.out.now) (g.E.Sink.held c.args.err.now) (g.E.Sink.held c.end_refused.new.err) (g.E.Sink.faults c.args.err.now) (g.E.Sink.faults c.end_refused.new.err)
    (subst (λ (r : Result TextVerdict HistoryFault). Answers (checked_answer r) c.end_refused.result (g.O.Sink.held c.args.out.now) (g.O.Sink.held c.args.out.now) (g.E.Sink.held c.args.err.now) (g.E.Sink.held c.end_refused.new.err) (g.E.Sink.faults c.args.err.now) (g.E.Sink.faults c.end_refused.new.err))
    (sym (too_long input long)) (c.end_refused.ensures.answers (g.O.Sink.held c.args.out.now))))
    (c.in-Err-TooLong.ensures.too_long (cc))

pub returns-in-Err-Failed-clause-does : goal.returns-in-Err-Failed-clause-does
returns-in-Err-Failed-clause-does g c =
    for_each (g.S.Source.left c.args.source.now) _
    (λ input. does_check input c.end.result (g.O.Sink.held c.args.out.now) (g.O.Sink.held c.args.out.now) (g.E.Sink.held c.args.err.now) (g.E.Sink.held c.end.new.err) (g.E.Sink.faults c.args.err.now) (g.E.Sink.faults c.end.new.err)
    (unanswered (answer_to_input input) c.end.result 5 (g.O.Sink.held c.args.out.now) (g.E.Sink.held c.args.err.now) (g.E.Sink.held c.end.new.err) (g.E.Sink.faults c.args.err.now) (g.E.Sink.faults c.end.new.err) refl c.end.ensures.status))

pub returns-in-Err-Memory-clause-does : goal.returns-in-Err-Memory-clause-does
returns-in-Err-Memory-clause-does g c =
    for_each (g.S.Source.left c.args.source.now) _
    (λ input. does_check input c.end-in-Err-Memory.result (g.O.Sink.held c.args.out.now) (g.O.Sink.held c.args.out.now) (g.E.Sink.held c.args.err.now) (g.E.Sink.held c.end-in-Err-Memory.new.err) (g.E.Sink.faults c.args.err.now) (g.E.Sink.faults c.end-in-Err-Memory.new.err)
    (unanswered (answer_to_input input) c.end-in-Err-Memory.result 10 (g.O.Sink.held c.args.out.now) (g.E.Sink.held c.args.err.now) (g.E.Sink.held c.end-in-Err-Memory.new.err) (g.E.Sink.faults c.args.err.now) (g.E.Sink.faults c.end-in-Err-Memory.new.err) refl c.end-in-Err-Memory.ensures.status))
