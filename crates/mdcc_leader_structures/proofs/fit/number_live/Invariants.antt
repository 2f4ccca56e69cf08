use Rattle.std.proofs.Common.{◌≡◌, ◌+◌, ◌≤◌, List, drop}
use Rattle.mdcc_def_messages.specs.declared.facts.Fact.{Fact}
use Rattle.mdcc_def_protocol.specs.Facts.{current_of}
use Rattle.mdcc_def_protocol.specs.Structures.{live_at_leader}
use Rattle.mdcc_leader_structures.specs.Live.{number_live}
use Rattle.mdcc_leader_structures.proofs.fit.number_live.Given as goal

abbrev pub invariant-loop-place : goal.invariant-loop-place
invariant-loop-place g l = record {
  few : l.number ≤ l.place;
  value : (facts : List Fact) → g.S.FactStore.stands l.store facts
      → l.number + number_live (live_at_leader facts l.key (current_of facts l.key) l.options) (drop l.place l.seen)
      ≡ number_live (live_at_leader facts l.key (current_of facts l.key) l.options) l.seen;
}
