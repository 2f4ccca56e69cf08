use Rattle.std.proofs.Common.{None}
use Rattle.mdcc_def_messages.specs.ReadingSteps.{elements_at}
use Rattle.mdcc_def_messages.specs.ReadingParts.{written_behind}
use Rattle.mdcc_parts.proofs.Elements.{HasRead}
use Rattle.mdcc_parts.proofs.choices.written_from.Given as goal

abbrev pub invariant-loop : goal.invariant-loop
invariant-loop l =
    HasRead (written_behind l.part l.bytes) (λ written. written.0) l.count l.counter l.write_set l.last l.place
    (elements_at (written_behind l.part l.bytes) (λ written. written.0) l.count None l.at)
