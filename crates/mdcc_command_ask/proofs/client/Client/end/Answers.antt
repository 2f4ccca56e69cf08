use Rattle.std.proofs.Common.{◌∙◌, List, subst, ℕ}
use Rattle.mdcc_command_ask.specs.Effects.{Prints}
use Rattle.mdcc_command_ask.proofs.client.Client.end.Goals as goal

pub returns : goal.returns
returns g c = subst (λ (text : List ℕ). Prints g.O.Sink.held g.O.Sink.faults text c.print.result c.args.out.now c.print.new.out) (c.as_bytes.ensures.value ∙ c.end_text.ensures) c.print.ensures
