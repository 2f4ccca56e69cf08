use Rattle.std.proofs.Common.{◌≡◌, List, drop}
use Rattle.std.specs.List.{list_any}
use Rattle.mdcc_def_messages.specs.declared.facts.Fact.{Fact}
use Rattle.mdcc_def_protocol.specs.Facts.{is_needed}
use Rattle.mdcc_facts_kept.specs.Kept.{IsKept}
use Rattle.mdcc_facts_kept.proofs.kept_facts.KeptFacts.is_one_needed.Given as goal

abbrev pub invariant-loop-choice : goal.invariant-loop-choice
invariant-loop-choice l = (facts : List Fact) → IsKept l.self facts → list_any (is_needed facts) (drop l.choice-index l.choices) ≡ list_any (is_needed facts) l.choices
