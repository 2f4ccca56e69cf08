use Rattle.std.proofs.Common.{None}
use Rattle.mdcc_def_messages.specs.ReadingSteps.{elements_at}
use Rattle.mdcc_def_messages.specs.ReadingParts.{part_behind}
use Rattle.mdcc_parts.proofs.Elements.{HasRead}
use Rattle.mdcc_wire.proofs.bodies.parts_from.Given as goal

abbrev pub invariant-loop : goal.invariant-loop
invariant-loop l =
    HasRead (part_behind l.part l.bytes) (λ p. p.key) l.count l.counter l.parts l.last l.place
    (elements_at (part_behind l.part l.bytes) (λ p. p.key) l.count None l.at)
