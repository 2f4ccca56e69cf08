use Rattle.std.proofs.Common.{None}
use Rattle.mdcc_def_messages.specs.ReadingSteps.{elements_at}
use Rattle.mdcc_def_messages.specs.ReadingParts.{amount_behind}
use Rattle.mdcc_parts.proofs.Elements.{HasRead}
use Rattle.mdcc_parts.proofs.items.amounts_from.Given as goal

abbrev pub invariant-loop : goal.invariant-loop
invariant-loop l =
    HasRead (amount_behind l.part l.bytes) (λ amount. amount.0) l.count l.counter l.amounts l.last l.place
    (elements_at (amount_behind l.part l.bytes) (λ amount. amount.0) l.count None l.at)
