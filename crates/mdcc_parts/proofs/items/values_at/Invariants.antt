use Rattle.std.proofs.Common.{None}
use Rattle.mdcc_def_messages.specs.ReadingSteps.{i64_at, elements_at}
use Rattle.mdcc_parts.proofs.Elements.{HasRead}
use Rattle.mdcc_parts.proofs.items.values_at.Given as goal

abbrev pub invariant-loop : goal.invariant-loop
invariant-loop l =
    HasRead (λ last. i64_at l.bytes) (λ value. value) l.count l.counter l.values None l.place
    (elements_at (λ last. i64_at l.bytes) (λ value. value) l.count None l.at)
