use Rattle.std.proofs.Common.{◌≡◌, ◌++◌, List, drop, true}
use Rattle.mdcc_def_messages.specs.declared.facts.Fact.{Fact}
use Rattle.mdcc_struct.specs.Maps.{are_ascending}
use Rattle.mdcc_def_protocol.specs.Facts.{without_forgotten}
use Rattle.mdcc_facts_kept.specs.Kept.{IsKept}
use Rattle.mdcc_facts_kept.proofs.kept_facts.KeptFacts.without_forgotten.Given as goal

abbrev pub invariant-loop-place : goal.invariant-loop-place
invariant-loop-place l = record {
  up : are_ascending (l.shown ++ drop l.place l.options) ≡ true;
  value : (facts : List Fact) → IsKept l.self facts
      → l.shown ++ without_forgotten facts l.key l.version (drop l.place l.options) ≡ without_forgotten facts l.key l.version l.options;
}
