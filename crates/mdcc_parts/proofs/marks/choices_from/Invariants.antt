use Rattle.std.proofs.Common.{None}
use Rattle.mdcc_def_messages.specs.ReadingSteps.{elements_at}
use Rattle.mdcc_def_messages.specs.ReadingParts.{choice_behind}
use Rattle.mdcc_parts.proofs.Elements.{HasRead}
use Rattle.mdcc_parts.proofs.marks.choices_from.Given as goal

abbrev pub invariant-loop : goal.invariant-loop
invariant-loop l =
    HasRead (choice_behind l.part l.tx l.bytes) (λ choice. choice.key) l.count l.counter l.choices l.last l.place
    (elements_at (choice_behind l.part l.tx l.bytes) (λ choice. choice.key) l.count None l.at)
