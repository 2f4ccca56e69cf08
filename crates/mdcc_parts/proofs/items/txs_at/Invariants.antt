use Rattle.std.proofs.Common.{None}
use Rattle.mdcc_def_messages.specs.ReadingSteps.{elements_at}
use Rattle.mdcc_def_messages.specs.ReadingParts.{tx_behind}
use Rattle.mdcc_parts.proofs.Elements.{HasRead}
use Rattle.mdcc_parts.proofs.items.txs_at.Given as goal

abbrev pub invariant-loop : goal.invariant-loop
invariant-loop l =
    HasRead (tx_behind l.part l.bytes) (λ tx. tx) l.count l.counter l.seen l.last l.place
    (elements_at (tx_behind l.part l.bytes) (λ tx. tx) l.count None l.at)
