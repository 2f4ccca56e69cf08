use Rattle.std.proofs.Common.{◌∙◌, List, OnErr, OnOk, subst, ℕ}
use Rattle.std.specs.Io.KnownBytes.{Appends}
use Rattle.std.proofs.lemmas.Result.{err_from_is_err_and}
use Rattle.mdcc_command_check.specs.Checks.{history_verdict_text}
use Rattle.mdcc_command_replay.proofs.Fronts.{nothing_written}
use Rattle.mdcc_command_replay.specs.Writing.{Front}
use Rattle.mdcc_command_check.proofs.command.print_verdict.Goals as goal

pub returns-in_err-text-clause-front : goal.returns-in_err-text-clause-front
returns-in_err-text-clause-front g c =
    let p = err_from_is_err_and c.from_residual.result c.from_residual.ensures.1 in
    rw p.1 (nothing_written (g.O.Sink.held c.args.out.now) (history_verdict_text c.args.verdict))

pub returns-clause-all : goal.returns-clause-all
returns-clause-all g c =
    subst (λ (text : List ℕ). OnOk c.write_text.result (Appends (g.O.Sink.held c.args.out.now) (g.O.Sink.held c.write_text.new.out) text)) (c.as_bytes.ensures.value ∙ c.in_ok-text.ensures) c.write_text.ensures.all

pub returns-clause-front : goal.returns-clause-front
returns-clause-front g c =
    subst (λ (text : List ℕ). OnErr c.write_text.result (Front (g.O.Sink.held c.args.out.now) (g.O.Sink.held c.write_text.new.out) text)) (c.as_bytes.ensures.value ∙ c.in_ok-text.ensures) c.write_text.ensures.front
