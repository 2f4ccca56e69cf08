use Rattle.std.proofs.Common.{◌∙◌, List, subst, ℕ}
use Rattle.mdcc_command_replay.proofs.Fronts.{front_at}
use Rattle.mdcc_command_replay.specs.Writing.{Front}
use Rattle.mdcc_command_audit.proofs.command.print_verdicts.Goals as goal

pub returns-clause-front : goal.returns-clause-front
returns-clause-front g c = λ h.
    let front = c.in-Err.ensures.front in
    subst (λ (text : List ℕ). Front (g.O.Sink.held c.args.out.now) (g.O.Sink.held c.write_all.new.sink) text) (c.as_bytes.ensures.value ∙ c.in-Ok.ensures)
    (front_at (g.O.Sink.held c.args.out.now) (g.O.Sink.held c.write_all.new.sink) c.as_bytes.result.now front.0 front.2)
