use Rattle.std.proofs.Common.{◌≡◌, List}
use Rattle.mdcc_def_messages.specs.declared.facts.Fact.{Fact}
use Rattle.mdcc_facts_kept.specs.Kept.{IsKept}
use Rattle.mdcc_facts_kept.specs.Next.{next_shown, places_from, shown_from}
use Rattle.mdcc_facts_kept.proofs.kept_facts.KeptFacts.next_shown.Given as goal

abbrev pub invariant-loop-next : goal.invariant-loop-next
invariant-loop-next l =
    (facts : List Fact) → IsKept l.self facts → next_shown facts l.key l.version l.ballot l.fn.last ≡ shown_from facts l.key l.version l.ballot l.next

abbrev pub decreases-loop-next : goal.decreases-loop-next
decreases-loop-next l = places_from l.next
