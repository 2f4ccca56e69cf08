use Rattle.std.proofs.Common.{None}
use Rattle.mdcc_def_messages.specs.ReadingSteps.{elements_at}
use Rattle.mdcc_def_messages.specs.ReadingParts.{delta_behind}
use Rattle.mdcc_parts.specs.Reads.{end_of}
use Rattle.mdcc_parts.proofs.Elements.{HasPassed}
use Rattle.mdcc_parts.proofs.given.check_deltas.Given as goal

abbrev pub invariant-loop : goal.invariant-loop
invariant-loop l =
    HasPassed (delta_behind l.part l.bytes) (λ delta. delta.tx) l.count l.counter l.last l.place
    (end_of (elements_at (delta_behind l.part l.bytes) (λ delta. delta.tx) l.count None l.at))
