use Rattle.std.proofs.Common.{◌∙◌, List, inl, subst, ℕ}
use Rattle.mdcc_command_endings.proofs.StatusLines.{line_is}
use Rattle.mdcc_command_replay.specs.Writing.{Tells}
use Rattle.mdcc_command_endings.proofs.ending.end_failed.Goals as goal

pub returns-in-Ok-clause-ends : goal.returns-in-Ok-clause-ends
returns-in-Ok-clause-ends g c = record {
  status_is = inl c.status.ensures.value;
  told = subst (λ (text : List ℕ). Tells (g.E.Sink.held c.args.err.now) (g.E.Sink.held c.tell.new.err) (g.E.Sink.faults c.args.err.now) (g.E.Sink.faults c.tell.new.err) text)
      (c.as_bytes.ensures.value ∙ c.in-Ok.ensures ∙ line_is c.args.failure.now c.status.result c.status.ensures.value) c.tell.ensures;
}
