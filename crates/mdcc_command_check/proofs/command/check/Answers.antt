use Rattle.std.proofs.Common.{Result, subst}
use Rattle.mdcc_command_check.proofs.Answered.{refused}
use Rattle.mdcc_command_check.specs.Checks.{Answers, checked_answer}
use Rattle.mdcc_check_histories.specs.Texts.{text_verdict_of}
use Rattle.mdcc_check_histories.specs.declared.texts.HistoryFault.{HistoryFault}
use Rattle.mdcc_check_histories.specs.declared.texts.TextVerdict.{TextVerdict}
use Rattle.mdcc_command_check.proofs.command.check.Goals as goal

pub returns-in-Ok-clause-answers : goal.returns-in-Ok-clause-answers
returns-in-Ok-clause-answers g c =
    subst (λ (r : Result TextVerdict HistoryFault). Answers (checked_answer r) c.end_judged.result (g.O.Sink.held c.args.out.now) (g.O.Sink.held c.end_judged.new.out) (g.E.Sink.held c.args.err.now) (g.E.Sink.held c.end_judged.new.err)
    (g.E.Sink.faults c.args.err.now) (g.E.Sink.faults c.end_judged.new.err)) c.in-Ok.ensures c.end_judged.ensures.answers

pub returns-in-Err-clause-answers : goal.returns-in-Err-clause-answers
returns-in-Err-clause-answers g c =
    refused (text_verdict_of c.args.text.now) c.in-Err.fault c.end_refused.result (g.O.Sink.held c.args.out.now) (g.E.Sink.held c.args.err.now) (g.E.Sink.held c.end_refused.new.err)
    (g.E.Sink.faults c.args.err.now) (g.E.Sink.faults c.end_refused.new.err) c.in-Err.ensures c.end_refused.ensures.memory (c.end_refused.ensures.answers (g.O.Sink.held c.args.out.now))
