use Rattle.std.proofs.Common.{◌≡◌, List, fold}
use Rattle.mdcc_base.specs.Ballot.{fast_ballot}
use Rattle.mdcc_def_messages.specs.declared.facts.Fact.{Fact}
use Rattle.mdcc_def_protocol.specs.Facts.{shown_of}
use Rattle.mdcc_facts.specs.Weights.{with_mark}
use Rattle.mdcc_facts_kept.specs.Kept.{IsKept}
use Rattle.mdcc_facts_kept.specs.Next.{marks_onward, places_from}
use Rattle.mdcc_facts_kept.proofs.kept_facts.KeptFacts.count_shown.Given as goal

abbrev pub invariant-loop-next : goal.invariant-loop-next
invariant-loop-next l =
    (facts : List Fact) → IsKept l.self facts
    → fold with_mark l.counts (marks_onward (shown_of facts l.key l.version fast_ballot) l.next) ≡ fold with_mark (0, 0) (shown_of facts l.key l.version fast_ballot)

abbrev pub decreases-loop-next : goal.decreases-loop-next
decreases-loop-next l = places_from l.next
