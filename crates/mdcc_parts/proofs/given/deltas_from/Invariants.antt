use Rattle.std.proofs.Common.{None}
use Rattle.mdcc_def_messages.specs.ReadingSteps.{elements_at}
use Rattle.mdcc_def_messages.specs.ReadingParts.{delta_behind}
use Rattle.mdcc_parts.proofs.Elements.{HasRead}
use Rattle.mdcc_parts.proofs.given.deltas_from.Given as goal

abbrev pub invariant-loop : goal.invariant-loop
invariant-loop l =
    HasRead (delta_behind l.part l.bytes) (λ delta. delta.tx) l.count l.counter l.deltas l.last l.place
    (elements_at (delta_behind l.part l.bytes) (λ delta. delta.tx) l.count None l.at)
