use Rattle.std.proofs.Common.{◌∙◌, List, inl, refl, subst, ℕ}
use Rattle.mdcc_command_replay.specs.Writing.{Tells}
use Rattle.mdcc_command_audit.proofs.command.end_contradicted.Goals as goal

pub returns-in-Ok : goal.returns-in-Ok
returns-in-Ok g c =
    record { ends = inl (refl, subst (λ (text : List ℕ). Tells (g.E.Sink.held c.args.err.now) (g.E.Sink.held c.tell.new.err) (g.E.Sink.faults c.args.err.now) (g.E.Sink.faults c.tell.new.err) text) (c.as_bytes.ensures.value ∙ c.in-Ok.ensures) c.tell.ensures) }
