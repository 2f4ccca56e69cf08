use Rattle.std.proofs.Common.{None}
use Rattle.mdcc_def_messages.specs.ReadingSteps.{elements_at}
use Rattle.mdcc_def_messages.specs.ReadingParts.{entry_behind}
use Rattle.mdcc_parts.specs.Reads.{end_of}
use Rattle.mdcc_parts.proofs.Elements.{HasPassed}
use Rattle.mdcc_parts.proofs.marks.check_entries.Given as goal

abbrev pub invariant-loop : goal.invariant-loop
invariant-loop l =
    HasPassed (entry_behind l.part l.key l.version l.bytes) (λ e. e.0) l.count l.counter l.last l.place
    (end_of (elements_at (entry_behind l.part l.key l.version l.bytes) (λ e. e.0) l.count None l.at))
