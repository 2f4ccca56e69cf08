use Rattle.std.proofs.Common.{◌≡◌, List, drop}
use Rattle.mdcc_def_messages.specs.declared.facts.Fact.{Fact}
use Rattle.mdcc_def_protocol.specs.Facts.{report_of}
use Rattle.mdcc_facts.specs.Walks.{each_kept, rest_of}
use Rattle.mdcc_facts_kept.specs.Kept.{IsKept}
use Rattle.mdcc_facts_kept.proofs.kept_facts.KeptFacts.marks.Given as goal

abbrev pub invariant-loop-at : goal.invariant-loop-at
invariant-loop-at l =
    (facts : List Fact) → IsKept l.self facts
    → drop l._at (report_of 0 facts l.key l.version l.below).votes ≡ rest_of each_kept l.last (report_of 0 facts l.key l.version l.below).votes
