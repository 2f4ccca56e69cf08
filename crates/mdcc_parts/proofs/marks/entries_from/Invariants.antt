use Rattle.std.proofs.Common.{None}
use Rattle.mdcc_def_messages.specs.ReadingSteps.{elements_at}
use Rattle.mdcc_def_messages.specs.ReadingParts.{entry_behind}
use Rattle.mdcc_parts.proofs.Elements.{HasRead}
use Rattle.mdcc_parts.proofs.Pushed.{MayFollow}
use Rattle.mdcc_parts.proofs.marks.entries_from.Given as goal

abbrev pub invariant-loop : goal.invariant-loop
invariant-loop l = record {
  read : HasRead (entry_behind l.part l.key l.version l.bytes) (λ e. e.0) l.count l.counter l.options l.last l.place
      (elements_at (entry_behind l.part l.key l.version l.bytes) (λ e. e.0) l.count None l.at);
  follows : MayFollow l.options l.last;
}
